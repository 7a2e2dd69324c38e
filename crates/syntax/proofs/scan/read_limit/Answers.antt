-- The two bytes: there are none; one; a limit too low, too high, or good.
use Rattle.std.proofs.Common.{◌≡◌, refl, ℕ, ◌+◌, ◌*◌, ◌<◌, ◌≤◌, List, [], ◌∷◌, length, get_or, arith, le-leb}
use Rattle.std.proofs.lemmas.Bool.{lt-leb}
use Rattle.walk.specs.Reader.{read_limit}
use Rattle.std.specs.Prelude.{Ok, Err}
use Rattle.std.proofs.lemmas.Result.{err_from_is_err_and}
use Rattle.syntax.specs.Told.{fault_at, value_of, limit_of}
use Rattle.syntax.proofs.Bytes.{found, missed}
use Rattle.syntax.proofs.scan.read_limit.Goals as goal

abbrev limit : List ℕ → ℕ
limit bytes = get_or bytes 0 0 + 256 * get_or bytes 1 0

none : (bytes : List ℕ) → length bytes < 1 → limit_of (read_limit bytes 0) ≡ Err (fault_at 0)
unfolding value_of read_limit
none [] h = refl
none (a ∷ bs) h = absurd (let z : ⊥ = omega arith in z)

one : (bytes : List ℕ) → 1 ≤ length bytes → length bytes < 2 → limit_of (read_limit bytes 0) ≡ Err (fault_at 1)
unfolding value_of read_limit
one [] l h = absurd (let z : ⊥ = omega arith in z)
one (a ∷ []) l h = refl
one (a ∷ b ∷ bs) l h = absurd (let z : ⊥ = omega arith in z)

low : (bytes : List ℕ) → 2 ≤ length bytes → limit bytes < 1 → limit_of (read_limit bytes 0) ≡ Err (fault_at 0)
unfolding value_of read_limit
low [] l h = absurd (let z : ⊥ = omega arith in z)
low (a ∷ []) l h = absurd (let z : ⊥ = omega arith in z)
low (a ∷ b ∷ bs) l h = rw (lt-leb 1 (a + 256 * b) h, read_limit)

high : (bytes : List ℕ) → 2 ≤ length bytes → 1 ≤ limit bytes → 4096 < limit bytes → limit_of (read_limit bytes 0) ≡ Err (fault_at 0)
unfolding value_of read_limit
high [] l k h = absurd (let z : ⊥ = omega arith in z)
high (a ∷ []) l k h = absurd (let z : ⊥ = omega arith in z)
high (a ∷ b ∷ bs) l k h = rw (le-leb 1 (a + 256 * b) k, lt-leb (a + 256 * b) 4096 h, read_limit)

good : (bytes : List ℕ) → 2 ≤ length bytes → 1 ≤ limit bytes → limit bytes ≤ 4096 → limit_of (read_limit bytes 0) ≡ Ok (limit bytes)
unfolding value_of read_limit
good [] l k h = absurd (let z : ⊥ = omega arith in z)
good (a ∷ []) l k h = absurd (let z : ⊥ = omega arith in z)
good (a ∷ b ∷ bs) l k h = rw (le-leb 1 (a + 256 * b) k, le-leb (a + 256 * b) 4096 h, read_limit)

pub returns-in_err-low : goal.returns-in_err-low
returns-in_err-low c =
    let p = err_from_is_err_and c.from_residual.result c.from_residual.ensures.1 in
    let m = missed c.args.s.now 0 _ c.in_err-low.ensures in
    rw (p.1, p.2, m.1, none c.args.s.now (omega (arith, m.0)))

pub returns-in_err-high : goal.returns-in_err-high
returns-in_err-high c =
    let p = err_from_is_err_and c.from_residual-in_err-high.result c.from_residual-in_err-high.ensures.1 in
    let l = found c.args.s.now 0 _ c.in_ok-low.ensures in
    let m = missed c.args.s.now 1 _ c.in_err-high.ensures in
    rw (p.1, p.2, m.1, one c.args.s.now (omega (arith, l.0)) (omega (arith, m.0)))

pub returns-then-limit-lt1 : goal.returns-then-limit-lt1
returns-then-limit-lt1 c =
    let l = found c.args.s.now 0 _ c.in_ok-low.ensures in
    let h = found c.args.s.now 1 _ c.in_ok-high.ensures in
    rw (low c.args.s.now (omega (arith, h.0)) (rw (c.from.ensures, c.from-2.ensures, l.1, h.1) at c.if-limit-lt1.true))

pub returns-then-limit-gt4096 : goal.returns-then-limit-gt4096
returns-then-limit-gt4096 c =
    let l = found c.args.s.now 0 _ c.in_ok-low.ensures in
    let h = found c.args.s.now 1 _ c.in_ok-high.ensures in
    rw (high c.args.s.now (omega (arith, h.0)) (rw (c.from.ensures, c.from-2.ensures, l.1, h.1) at c.if-limit-lt1.false) (rw (c.from.ensures, c.from-2.ensures, l.1, h.1) at c.if-limit-gt4096.true))

pub returns : goal.returns
returns c =
    let l = found c.args.s.now 0 _ c.in_ok-low.ensures in
    let h = found c.args.s.now 1 _ c.in_ok-high.ensures in
    rw (good c.args.s.now (omega (arith, h.0)) (rw (c.from.ensures, c.from-2.ensures, l.1, h.1) at c.if-limit-lt1.false) (rw (c.from.ensures, c.from-2.ensures, l.1, h.1) at c.if-limit-gt4096.false), c.from.ensures, c.from-2.ensures, l.1, h.1)
