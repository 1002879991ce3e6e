-- What the code's own record of where a block returns stands for.
use Rattle.std.specs.Prelude.{Bool, true, false, ◌&&◌, List, [], ◌∷◌, map}
use Rattle.eager_rules.specs.Sound.{Shape, shape_step, shape_of_body}
use Rattle.eager_rules.specs.declared.program.Core.{Core}
use Rattle.eager_rules.specs.declared.program.Core.TheFolds.{fold-Core}
use Rattle.array_types.specs.declared.shape.Returns.{Returns}

abbrev pub shape_seen : Returns → Shape
shape_seen r = record { plain = r.plain; tail = r.tail; shut = r.shut }

-- where one statement returns
abbrev pub shape_of : Core → Shape
shape_of = fold-Core Shape shape_step

-- where a block returns after one more statement before it
abbrev pub before : Shape → Shape → Shape
before x later = record { plain = x.plain && later.plain; tail = x.plain && later.tail; shut = x.plain && later.shut }
