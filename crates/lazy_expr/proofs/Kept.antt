-- What equals the plain form keeps what the plain form keeps.
use Rattle.std.proofs.Common.{◌≡◌, sym, subst, Result, Ok, Err, IfOk}

pub kept_by : {A E : Type 0} (P : A → Type 0) (a : A) (r : Result A E) → P a → IfOk r (λ b. b ≡ a) → IfOk r P
kept_by P a (Ok b) law e = subst P (sym e) law
kept_by P a (Err x) law e = tt
