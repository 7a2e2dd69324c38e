-- A cell read back as a term, annotations and all: the term that it stands for.
use Rattle.std.specs.Prelude.{ℕ, ◌<◌, ◌≡◌, get_or, List}
use Rattle.std.proofs.Math.Path.{refl}
use Rattle.std.proofs.Math.Option.{Option, none, some}
use Rattle.std.proofs.Common.{arith}
use Rattle.walk.specs.Syntax.{Interval, Term, Universe, Var, Nat, Zero, Pi, Lam, App, Path, PathLam, PathApp, Sigma, Pair, Fst, Snd}
use Rattle.walk.specs.Reader.{Kind, k_u, k_v, k_nat, k_zero, k_pi, k_lam, k_app, k_path, k_plam, k_papp, k_sigma, k_pair, k_fst, k_snd, kinds}
use Rattle.walk.specs.State.{State, Thing, term, interval}
use Rattle.producer.specs.Machine.{Machine}
use Rattle.link.specs.Lists.{Nth, nth_below}
use Rattle.link.specs.Things.{Cell, cell_nth}
use Rattle.link.specs.Tables.{Shape, s_universe, s_var, s_nat, s_zero, s_pi, s_lam, s_app, s_path, s_plam, s_papp, s_sigma, s_pair, s_fst, s_snd}
use Rattle.link.specs.Holds.{Before, Holds}
use Rattle.link.specs.Table.{◌>>=◌, kind_word, part, lower, interval_at, CellsWords}
use Rattle.link.proofs.Back.{lowered, cells_told, inner, part_at}
use Rattle.link.proofs.Back as B

-- as `link`'s Table reads a quote, with the parts that quotes leave out
unfoldable pub term_by : (ℕ → Option Term) → (ℕ → Option Interval) → Kind → (a b c : ℕ) → Option Term
-- written by tools/written.py: a term
term_by at iat k_u a b c = some (Universe a)
term_by at iat k_v a b c = some (Var a)
term_by at iat k_nat a b c = some Nat
term_by at iat k_zero a b c = some Zero
term_by at iat k_pi a b c = at a >>= λ x. at b >>= λ y. some (Pi x y)
term_by at iat k_lam a b c = at a >>= λ x. at b >>= λ y. some (Lam x y)
term_by at iat k_app a b c = at a >>= λ x. at b >>= λ y. some (App x y)
term_by at iat k_path a b c = at a >>= λ x. at b >>= λ y. at c >>= λ z. some (Path x y z)
term_by at iat k_plam a b c = at a >>= λ x. at b >>= λ y. some (PathLam x y)
term_by at iat k_papp a b c = at a >>= λ x. iat b >>= λ y. some (PathApp x y)
term_by at iat k_sigma a b c = at a >>= λ x. at b >>= λ y. some (Sigma x y)
term_by at iat k_pair a b c = at a >>= λ x. at b >>= λ y. at c >>= λ z. some (Pair x y z)
term_by at iat k_fst a b c = at a >>= λ x. some (Fst x)
term_by at iat k_snd a b c = at a >>= λ x. some (Snd x)

-- end of a term

unfoldable pub term_at : ℕ → List ℕ → ℕ → Option Term
term_at ℕ.zero C n = none
term_at (ℕ.suc f) C n = get_or kinds (kind_word C n) none >>= λ k. term_by (lower n (term_at f C)) (lower n (interval_at f C)) k (part 1 C n) (part 2 C n) (part 3 C n)

module _ {xs : List Thing} {C : List ℕ} (cs : CellsWords xs C) where
  interval_back : (f n : ℕ) (r : Interval) → n < f → Nth n (interval r) xs → interval_at f C n ≡ some r
  interval_back = B.interval_back cs

  back : (f n : ℕ) (t : Term) → n < f → Nth n (term t) xs → term_at f C n ≡ some t
  unfolding term_at term_by ◌>>=◌
  back ℕ.zero n t l h = absurd (omega arith)
  back (ℕ.suc f) n t l h = let i = inner cs {x = term t} tt h in go (λ m _ k h. lowered (term_at f C) k (back f m _ (omega arith) h)) (part_at cs i) i.shape
    where
      go : {ys : List Thing} {k a b c : ℕ} {t : Term} → ((m : ℕ) (s : Term) → m < n → Nth m (term s) xs → lower n (term_at f C) m ≡ some s) → ((m : ℕ) (y : Thing) → Cell m y ys → (m < n) × Nth m y xs) → Shape ys k a b c (term t) → (get_or kinds k none >>= λ k. term_by (lower n (term_at f C)) (lower n (interval_at f C)) k a b c) ≡ some t
      -- written by tools/written.py: terms
      go ih at s_universe = refl
      go ih at s_var = refl
      go ih at s_nat = refl
      go ih at s_zero = refl
      go ih at (s_pi x y) = let p = at _ _ x in let q = at _ _ y in rw (ih _ _ (omega arith) p.1, ih _ _ (omega arith) q.1)
      go ih at (s_lam x y) = let p = at _ _ x in let q = at _ _ y in rw (ih _ _ (omega arith) p.1, ih _ _ (omega arith) q.1)
      go ih at (s_app x y) = let p = at _ _ x in let q = at _ _ y in rw (ih _ _ (omega arith) p.1, ih _ _ (omega arith) q.1)
      go ih at (s_path x y z) = let p = at _ _ x in let q = at _ _ y in let r = at _ _ z in rw (ih _ _ (omega arith) p.1, ih _ _ (omega arith) q.1, ih _ _ (omega arith) r.1)
      go ih at (s_plam x y) = let p = at _ _ x in let q = at _ _ y in rw (ih _ _ (omega arith) p.1, ih _ _ (omega arith) q.1)
      go ih at (s_papp x y) = let p = at _ _ x in let q = at _ _ y in rw (ih _ _ (omega arith) p.1, lowered (interval_at f C) q.0 (interval_back f _ _ (omega arith) q.1))
      go ih at (s_sigma x y) = let p = at _ _ x in let q = at _ _ y in rw (ih _ _ (omega arith) p.1, ih _ _ (omega arith) q.1)
      go ih at (s_pair x y z) = let p = at _ _ x in let q = at _ _ y in let r = at _ _ z in rw (ih _ _ (omega arith) p.1, ih _ _ (omega arith) q.1, ih _ _ (omega arith) r.1)
      go ih at (s_fst x) = let p = at _ _ x in rw (ih _ _ (omega arith) p.1)
      go ih at (s_snd x) = let p = at _ _ x in rw (ih _ _ (omega arith) p.1)
      -- end of terms

-- in words that stand for a state
told : {o : Before} {w : Machine} {s : State} → Holds o w s → CellsWords s.cells w.cells
told h = rw h.words.cells_end (cells_told _ h.words.cells_are)

pub term_back : {o : Before} {w : Machine} {s : State} {n : ℕ} {t : Term} → Holds o w s → Cell n (term t) s.cells → term_at w.state.cells w.cells n ≡ some t
term_back {n = n} {t = t} h c = let k = cell_nth c in rw h.counts (back (told h) _ n t (nth_below k) k)

pub interval_read : {o : Before} {w : Machine} {s : State} {n : ℕ} {r : Interval} → Holds o w s → Cell n (interval r) s.cells → interval_at w.state.cells w.cells n ≡ some r
interval_read {n = n} {r = r} h c = let k = cell_nth c in rw h.counts (interval_back (told h) _ n r (nth_below k) k)
