-- The byte of each kind: what a table of the reader gives back stands at its byte. Assumes nothing.
use Rattle.std.specs.Prelude.{ℕ, zero, suc, ◌+◌, ◌≡◌, refl, List, [], ◌∷◌, ◌++◌, get_or, replicate}
use Rattle.std.proofs.Math.Option.{Option, none, some}
use Rattle.std.proofs.Common.{arith}
use Rattle.walk.specs.Reader.{Kind, k_u, k_v, k_nat, k_zero, k_pi, k_lam, k_app, k_path, k_plam, k_papp, k_sigma, k_pair, k_fst, k_snd, IKind, k_0, k_1, k_dim, k_neg, k_meet, k_join, kinds, ikinds}

pub no_some : {A : Type 0} {a : A} → none ≡ some a → ⊥
no_some e = let z : ◌≡◌ {A = ℕ} 0 1 = cc in omega arith

-- A table has each kind at its byte, counted from b on.
pub data Table {K : Type 0} (byte : K → ℕ) : ℕ → List (Option K) → Type 0 where
  end : {b : ℕ} → Table byte b []
  blank : {b : ℕ} {t : List (Option K)} → Table byte (suc b) t → Table byte b (none ∷ t)
  entry : {b : ℕ} {k : K} {t : List (Option K)} → byte k ≡ b → Table byte (suc b) t → Table byte b (some k ∷ t)

pub blanks : {K : Type 0} {byte : K → ℕ} {t : List (Option K)} (n b : ℕ) → Table byte (n + b) t → Table byte b (replicate n none ++ t)
blanks {byte = byte} {t = t} zero b h = rw (let e : 0 + b ≡ b = omega arith in e) at h
blanks {byte = byte} {t = t} (suc n) b h = blank (blanks n (suc b) (rw (let e : suc n + b ≡ n + suc b = omega arith in e) at h))

pub found : {K : Type 0} {byte : K → ℕ} {b : ℕ} {t : List (Option K)} → Table byte b t → (n : ℕ) (k : K) → get_or t n none ≡ some k → n + b ≡ byte k
found end n k e = absurd (no_some e)
found (blank h) zero k e = absurd (no_some e)
found {b = b} (blank h) (suc n) k e = let f = found h n k e in omega arith
found {byte = byte} {b = b} (entry {k = j} q h) zero k e = let i : j ≡ k = cc in rw (← i) (omega arith)
found {b = b} (entry q h) (suc n) k e = let f = found h n k e in omega arith

-- the reader's tables

abbrev pub kind_byte : Kind → ℕ
-- written by tools/written.py: bytes of term kinds
kind_byte k_u = 1
kind_byte k_v = 2
kind_byte k_nat = 3
kind_byte k_zero = 4
kind_byte k_pi = 5
kind_byte k_lam = 6
kind_byte k_app = 7
kind_byte k_path = 8
kind_byte k_plam = 9
kind_byte k_papp = 10
kind_byte k_sigma = 11
kind_byte k_pair = 12
kind_byte k_fst = 13
kind_byte k_snd = 14

-- end of bytes of term kinds

abbrev pub ikind_byte : IKind → ℕ
-- written by tools/written.py: bytes of interval kinds
ikind_byte k_0 = 16
ikind_byte k_1 = 17
ikind_byte k_dim = 18
ikind_byte k_neg = 19
ikind_byte k_meet = 20
ikind_byte k_join = 21

-- end of bytes of interval kinds

pub kind_is : (b : ℕ) (k : Kind) → get_or kinds b none ≡ some k → b ≡ kind_byte k
kind_is b k e = let f = found {byte = kind_byte} table b k e in omega arith
  where
    table : Table kind_byte 0 kinds
    -- written by tools/written.py: table of term kinds
    table = blank (entry refl (entry refl (entry refl (entry refl (entry refl (entry refl (entry refl (entry refl (entry refl (entry refl (entry refl (entry refl (entry refl (entry refl end))))))))))))))
    -- end of table of term kinds

pub ikind_is : (b : ℕ) (k : IKind) → get_or ikinds b none ≡ some k → b ≡ ikind_byte k
ikind_is b k e = let f = found {byte = ikind_byte} table b k e in omega arith
  where
    table : Table ikind_byte 0 ikinds
    -- written by tools/written.py: table of interval kinds
    table = blanks 16 0 (entry refl (entry refl (entry refl (entry refl (entry refl (entry refl end))))))
    -- end of table of interval kinds
