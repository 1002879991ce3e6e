-- What is learned of an instance from what its statements do, and of all instances, one after another.
use Rattle.std.specs.Prelude.{◌≡◌, ℕ, ◌<◌, Bool, true, false, List, [], length, Option, Some, None}
use Rattle.std.specs.List.{flat_map, list_any}
use Rattle.eager_rules.specs.declared.program.Instance.{Instance}
use Rattle.purity.specs.Effects.{Among}
use Rattle.purity.specs.Marks.{IsWay, marked, row}
use Rattle.purity.specs.Tables.{AreSummaries, known_at}
use Rattle.purity.specs.Uses.{flow_into, given_as, is_fault, only_by, written}
use Rattle.purity.specs.declared.summary.Summary.{Summary}
use Rattle.purity.specs.declared.uses.Use.{Use}

-- a number leads to one of these names
abbrev pub LeadsTo : List (List ℕ) → List ℕ → ℕ → Type 0
LeadsTo rows ends number = (behind : List ℕ) × IsWay rows ends number behind

-- Exactly the parameters are marked that lead to one of these names.
pub record IsLeading (rows : List (List ℕ)) (ends : List ℕ) (params : ℕ) (marks : List Bool) : Type 0 where
  pub sound : (p : ℕ) → marked marks p ≡ true → (p < params) × LeadsTo rows ends p
  pub whole : (p : ℕ) → p < params → LeadsTo rows ends p → marked marks p ≡ true

abbrev pub number_when : List Bool → ℕ → List ℕ
number_when marks number = only_by (marked marks number) number

-- These are the parameters that lead to one of these names.
pub record AreSources (rows : List (List ℕ)) (ends : List ℕ) (params : ℕ) (numbers : List ℕ) : Type 0 where
  pub sound : (p : ℕ) → Among numbers p → (p < params) × LeadsTo rows ends p
  pub whole : (p : ℕ) → p < params → LeadsTo rows ends p → Among numbers p

-- names flow into others as uses say
abbrev pub AreFlows : List Use → List (List ℕ) → Type 0
AreFlows uses rows = (k : ℕ) → row rows k ≡ flat_map (flow_into k) uses

-- What is known of an instance with so many parameters, by what its statements do.
pub record Summarizes (uses : List Use) (params : ℕ) (s : Summary) : Type 0 where
  pub rows : List (List ℕ)
  pub flows : AreFlows uses rows
  pub writes : IsLeading rows (flat_map written uses) params s.writes
  pub gives : (k : ℕ) → AreSources rows (flat_map (given_as k) uses) params (row s.gives k)
  pub faults : s.faults ≡ list_any is_fault uses

abbrev pub some : Option Summary → Bool
some None = false
some (Some s) = true

abbrev pub is_known : List (Option Summary) → ℕ → Bool
is_known known number = some (known_at known number)

-- there is a place for each instance, and what is known is so
pub record IsKnowledge (instances : List Instance) (known : List (Option Summary)) : Type 0 where
  pub count : length known ≡ length instances
  pub so : AreSummaries instances known

-- nothing is forgotten
abbrev pub Keeps : List (Option Summary) → List (Option Summary) → Type 0
Keeps old new = (k : ℕ) → is_known old k ≡ true → is_known new k ≡ true

-- Where it is an instance's number, that instance is known.
pub record Learns (instances : List Instance) (number : ℕ) (old new : List (Option Summary)) : Type 0 where
  pub knowledge : IsKnowledge instances new
  pub kept : Keeps old new
  pub there : number < length instances → is_known new number ≡ true

pub record LearnsAll (instances : List Instance) (numbers : List ℕ) (old new : List (Option Summary)) : Type 0 where
  pub knowledge : IsKnowledge instances new
  pub kept : Keeps old new
  pub there : (k : ℕ) → Among numbers k → k < length instances → is_known new k ≡ true

-- these instances are known, where they are instances
abbrev pub AreThere : List Instance → List ℕ → List (Option Summary) → Type 0
AreThere instances numbers known =
    (k : ℕ) → Among numbers k → k < length instances → is_known known k ≡ true

-- each instance is known
pub record KnowsAll (instances : List Instance) (known : List (Option Summary)) : Type 0 where
  pub knowledge : IsKnowledge instances known
  pub all : (k : ℕ) → k < length instances → is_known known k ≡ true
