-- What tests and options say.
use Rattle.std.proofs.Common.{◌≡◌, refl, Bool, true, false, ◌&&◌, Option, Some, None}
use Rattle.eager_rules.specs.Sound.{given_types}

pub not_true : {A : Type 0} → false ≡ true → A
not_true h = absurd (let e : false ≡ true = h in cc)

pub none_some : {A B : Type 0} (a : A) → ◌≡◌ {A = Option A} None (Some a) → B
none_some a e = absurd (let h = e in cc)

pub some_same : {A : Type 0} (a b : A) → Some a ≡ Some b → a ≡ b
some_same a b e = cc

pub and_left : (a b : Bool) → a && b ≡ true → a ≡ true
and_left true b h = refl
and_left false b h = h

pub and_right : (a b : Bool) → a && b ≡ true → b ≡ true
and_right true b h = h
and_right false b h = not_true h

pub both_true : (a b : Bool) → a ≡ true → b ≡ true → a && b ≡ true
both_true true b h k = k
both_true false b h k = h

pub some_given : {A : Type 0} (o : Option A) (test : A → Bool) → given_types o test ≡ true →
    (x : A) × (o ≡ Some x) × (test x ≡ true)
some_given None test h = not_true h
some_given (Some x) test h = (x, refl, h)
