-- Laws of the machine's steps.
use Rattle.std.specs.Prelude.{ℕ, ◌≡◌, refl}
use Rattle.std.proofs.Common.{ap}
use Rattle.std.proofs.Math.Path.{fun_ext}
use Rattle.producer.specs.Machine.{Result, is, not, W, next, ◌>>=◌, give}
use Rattle.run.specs.Build.{made}

pub then_same : {A B : Type 0} (m : W A) {f g : A → W B} → ((a : A) → f a ≡ g a) → (m >>= f) ≡ (m >>= g)
then_same m h = ap (λ f. m >>= f) (fun_ext h)

pub then_then : {A B C : Type 0} (m : W A) (f : A → W B) (g : B → W C) → ((m >>= f) >>= g) ≡ (m >>= λ a. f a >>= g)
unfolding ◌>>=◌ next
then_then {A} {B} {C} m f g = fun_ext λ w. go (m w)
  where
    go : (r : Result A) → next (next r f) g ≡ next r (λ a. λ w. next (f a w) g)
    go (is a w) = refl
    go (not n w) = refl

pub then_give : {A : Type 0} (m : W A) → (m >>= give) ≡ m
unfolding ◌>>=◌ next give
then_give {A} m = fun_ext λ w. go (m w)
  where
    go : (r : Result A) → next r (λ a. λ w. is a w) ≡ r
    go (is a w) = refl
    go (not n w) = refl

pub give_then : {A B : Type 0} (a : A) (f : A → W B) → (give a >>= f) ≡ f a
unfolding ◌>>=◌ next give
give_then a f = refl

-- a cell with an offset, and what follows
pub made_then : {B : Type 0} (n : ℕ) (m : W ℕ) (f : ℕ × ℕ → W B) → (made n m >>= f) ≡ (m >>= λ a. f (a, n))
unfolding made ◌>>=◌ next give
made_then n m f = then_then m (λ a. give (a, n)) f

pub made_in : {A : Type 0} (n : ℕ) (m : W A) (f : A → W ℕ) → made n (m >>= f) ≡ (m >>= λ a. made n (f a))
unfolding made
made_in n m f = then_then m f (λ a. give (a, n))
