-- A program without its idle calls: those for no value of a calm instance, which are left out.
use Rattle.std.specs.Prelude.{ℕ, ◌&&◌, Bool, true, false, List, [], ◌∷◌, map}
use Rattle.eager_rules.specs.declared.program.Core.{Core}
use Rattle.eager_rules.specs.declared.program.Core.TheOpen as c
use Rattle.eager_rules.specs.declared.program.Core.TheVariants as core
use Rattle.eager_rules.specs.declared.program.Core.TheFolds.{fold-Core}
use Rattle.eager_rules.specs.declared.program.Instance.{Instance}
use Rattle.eager_rules.specs.declared.program.Program.{Program}
use Rattle.inline.specs.Idle.{is_none}
use Rattle.inline.specs.Own.{joined}

abbrev pub unless_idle : Bool → Core → List Core
unless_idle true x = []
unless_idle false x = x ∷ []

-- what stands for a statement, with what stands for those of its blocks
abbrev pub drop_step : (ℕ → Bool) → c.Core-F (List Core) → List Core
drop_step calm (c.Word to op args at) = core.Word to op args at ∷ []
drop_step calm (c.Extent to of axis) = core.Extent to of axis ∷ []
drop_step calm (c.Get to of index at) = core.Get to of index at ∷ []
drop_step calm (c.Put of index value at) = core.Put of index value at ∷ []
drop_step calm (c.Pick to of subs at) = core.Pick to of subs at ∷ []
drop_step calm (c.Flip to of) = core.Flip to of ∷ []
drop_step calm (c.Alias to of) = core.Alias to of ∷ []
drop_step calm (c.Fresh to dims fill at) = core.Fresh to dims fill at ∷ []
drop_step calm (c.Map to op args at) = core.Map to op args at ∷ []
drop_step calm (c.Reduce to op of at) = core.Reduce to op of at ∷ []
drop_step calm (c.Store of value at) = core.Store of value at ∷ []
drop_step calm (c.Call to instance args) = unless_idle (is_none to && calm instance) (core.Call to instance args)
drop_step calm (c.If cond part other) = core.If cond (joined part) (joined other) ∷ []
drop_step calm (c.For var lo hi by at omp body) = core.For var lo hi by at omp (joined body) ∷ []
drop_step calm (c.Return values) = core.Return values ∷ []

-- a block without its idle calls
abbrev pub without : (ℕ → Bool) → List Core → List Core
without calm body = joined (map (fold-Core (List Core) (drop_step calm)) body)

abbrev pub dropped_in : (ℕ → Bool) → Instance → Instance
dropped_in calm f = record {
  name = f.name;
  weight = f.weight;
  params = f.params;
  rets = f.rets;
  names = f.names;
  body = without calm f.body;
}

-- the program without the idle calls of its instances
abbrev pub dropped : Program → (ℕ → Bool) → Program
dropped program calm =
    record { instances = map (dropped_in calm) program.instances; kernels = program.kernels }
