-- What follows by a rule: `Follows n js j` says that rule n takes the premises js, in this order, to j.
-- One constructor for each rule; for one with several lists of premises, one for each of these.
--
-- Each group below says which rules of CCHM it is, and what it adds; or that it is the source's alone. Figure 1 of CCHM has the rules of
-- its section 2, the basic type theory, and Figure 2 those of its section 3, path types. What differs throughout is not said again at each
-- rule: indices for names, d for the dimensions in a context, types that are terms with a universe, intervals as they are written
-- (docs/DIFFERENCES.md, "From CCHM").
use Rattle.std.specs.Prelude.{ℕ, suc, List, [], ◌∷◌}
use Rattle.walk.specs.Syntax.{Interval, I0, I1, Dim, Neg, Meet, Join, Quote, u, v, nat, zero, pi, lam, app, path, plam, papp, sigma, pair, fst, snd, Quotes, nil, cons}
use Rattle.walk.specs.Judgment.{Judgment, ctx, dshiftctx, lookup, lt, le, max, interval, ishift, isubst, shift, subst, dshift, dsubst, has, eq, iend}
use Rattle.walk.specs.Rule as R

pub data Follows : ℕ → List Judgment → Judgment → Type 0 where
  -- ctx: the well-formed contexts of Figure 1, and d dimensions, for the names that section 3 declares
  by_ctx_nil : {d : ℕ} → Follows R.ctx_nil [] (ctx d nil)
  by_ctx_cons : {d l : ℕ} {g : Quotes} {A : Quote} → Follows R.ctx_cons (ctx d g ∷ has d g A (u l) ∷ []) (ctx d (cons A g))
  -- dshiftctx: the source's alone. The context under one dimension more; in CCHM weakening is silent
  by_dshiftctx_nil : Follows R.dshiftctx_nil [] (dshiftctx nil 0 nil)
  by_dshiftctx_cons : {g g' : Quotes} {A A' : Quote} → Follows R.dshiftctx_cons (dshiftctx g 0 g' ∷ dshift A 0 A' ∷ []) (dshiftctx (cons A g) 0 (cons A' g'))
  -- lookup: the source's alone as a judgment. That x : A stands in the context, a condition of the variable rule of Figure 1; the shifts
  -- take A from where it stands to the whole context
  by_lookup_z : {A B : Quote} {g : Quotes} → Follows R.lookup_z (shift A 0 B ∷ []) (lookup (cons A g) 0 B)
  by_lookup_s : {g : Quotes} {n : ℕ} {A B C : Quote} → Follows R.lookup_s (lookup g n A ∷ shift A 0 B ∷ []) (lookup (cons C g) (suc n) B)
  -- lt, le, max: the source's alone. Comparisons of indices and dimensions, and the larger of two levels
  by_lt_z : {n : ℕ} → Follows R.lt_z [] (lt 0 (suc n))
  by_lt_s : {m n : ℕ} → Follows R.lt_s (lt m n ∷ []) (lt (suc m) (suc n))
  by_le_z : {n : ℕ} → Follows R.le_z [] (le 0 n)
  by_le_s : {m n : ℕ} → Follows R.le_s (le m n ∷ []) (le (suc m) (suc n))
  by_max_z : {n : ℕ} → Follows R.max_z [] (max 0 n n)
  by_max_sz : {m : ℕ} → Follows R.max_sz [] (max (suc m) 0 (suc m))
  by_max_ss : {m n k : ℕ} → Follows R.max_ss (max m n k ∷ []) (max (suc m) (suc n) (suc k))
  -- interval: r : 𝕀 of section 3, that r is made from the names that are declared
  by_interval_0 : {d : ℕ} → Follows R.interval_0 [] (interval d I0)
  by_interval_1 : {d : ℕ} → Follows R.interval_1 [] (interval d I1)
  by_interval_dim : {n d : ℕ} → Follows R.interval_dim (lt n d ∷ []) (interval d (Dim n))
  by_interval_neg : {d : ℕ} {r : Interval} → Follows R.interval_neg (interval d r ∷ []) (interval d (Neg r))
  by_interval_meet : {d : ℕ} {r s : Interval} → Follows R.interval_meet (interval d r ∷ interval d s ∷ []) (interval d (Meet r s))
  by_interval_join : {d : ℕ} {r s : Interval} → Follows R.interval_join (interval d r ∷ interval d s ∷ []) (interval d (Join r s))
  -- ishift, isubst: the source's alone as judgments. Weakening by a name, and (i/r), of an interval
  by_ishift_0 : {k : ℕ} → Follows R.ishift_0 [] (ishift I0 k I0)
  by_ishift_1 : {k : ℕ} → Follows R.ishift_1 [] (ishift I1 k I1)
  by_ishift_dim_lt : {n k : ℕ} → Follows R.ishift_dim_lt (lt n k ∷ []) (ishift (Dim n) k (Dim n))
  by_ishift_dim_ge : {k n : ℕ} → Follows R.ishift_dim_ge (le k n ∷ []) (ishift (Dim n) k (Dim (suc n)))
  by_ishift_neg : {r r' : Interval} {k : ℕ} → Follows R.ishift_neg (ishift r k r' ∷ []) (ishift (Neg r) k (Neg r'))
  by_ishift_meet : {r r' s s' : Interval} {k : ℕ} → Follows R.ishift_meet (ishift r k r' ∷ ishift s k s' ∷ []) (ishift (Meet r s) k (Meet r' s'))
  by_ishift_join : {r r' s s' : Interval} {k : ℕ} → Follows R.ishift_join (ishift r k r' ∷ ishift s k s' ∷ []) (ishift (Join r s) k (Join r' s'))
  by_isubst_0 : {k : ℕ} {q : Interval} → Follows R.isubst_0 [] (isubst I0 k q I0)
  by_isubst_1 : {k : ℕ} {q : Interval} → Follows R.isubst_1 [] (isubst I1 k q I1)
  by_isubst_dim_hit : {k : ℕ} {q : Interval} → Follows R.isubst_dim_hit [] (isubst (Dim k) k q q)
  by_isubst_dim_lt : {n k : ℕ} {q : Interval} → Follows R.isubst_dim_lt (lt n k ∷ []) (isubst (Dim n) k q (Dim n))
  by_isubst_dim_gt : {k n : ℕ} {q : Interval} → Follows R.isubst_dim_gt (lt k (suc n) ∷ []) (isubst (Dim (suc n)) k q (Dim n))
  by_isubst_neg : {r q r' : Interval} {k : ℕ} → Follows R.isubst_neg (isubst r k q r' ∷ []) (isubst (Neg r) k q (Neg r'))
  by_isubst_meet : {r q r' s s' : Interval} {k : ℕ} → Follows R.isubst_meet (isubst r k q r' ∷ isubst s k q s' ∷ []) (isubst (Meet r s) k q (Meet r' s'))
  by_isubst_join : {r q r' s s' : Interval} {k : ℕ} → Follows R.isubst_join (isubst r k q r' ∷ isubst s k q s' ∷ []) (isubst (Join r s) k q (Join r' s'))
  -- shift: free variables from k on, up by one. The source's alone as a judgment: weakening by a variable
  by_shift_u : {l k : ℕ} → Follows R.shift_u [] (shift (u l) k (u l))
  by_shift_nat : {k : ℕ} → Follows R.shift_nat [] (shift nat k nat)
  by_shift_zero : {k : ℕ} → Follows R.shift_zero [] (shift zero k zero)
  by_shift_v_lt : {n k : ℕ} → Follows R.shift_v_lt (lt n k ∷ []) (shift (v n) k (v n))
  by_shift_v_ge : {k n : ℕ} → Follows R.shift_v_ge (le k n ∷ []) (shift (v n) k (v (suc n)))
  by_shift_pi : {a a' b b' : Quote} {k : ℕ} → Follows R.shift_pi (shift a k a' ∷ shift b (suc k) b' ∷ []) (shift (pi a b) k (pi a' b'))
  by_shift_lam : {b b' : Quote} {k : ℕ} → Follows R.shift_lam (shift b (suc k) b' ∷ []) (shift (lam b) k (lam b'))
  by_shift_app : {f f' a a' : Quote} {k : ℕ} → Follows R.shift_app (shift f k f' ∷ shift a k a' ∷ []) (shift (app f a) k (app f' a'))
  by_shift_path :
      {a a' b b' c c' : Quote} {k : ℕ} →
      Follows R.shift_path
      (shift a k a'
      ∷ shift b k b'
      ∷ shift c k c'
      ∷ [])
      (shift (path a b c) k (path a' b' c'))
  by_shift_plam : {b b' : Quote} {k : ℕ} → Follows R.shift_plam (shift b k b' ∷ []) (shift (plam b) k (plam b'))
  by_shift_papp : {p p' : Quote} {k : ℕ} {r : Interval} → Follows R.shift_papp (shift p k p' ∷ []) (shift (papp p r) k (papp p' r))
  -- subst: x for the variable k. The source's alone as a judgment: the substitution (x/u) of section 2, which is an operation there. Under
  -- a binder x is moved by a shift or dshift of its own, where CCHM renames
  by_subst_u : {l k : ℕ} {x : Quote} → Follows R.subst_u [] (subst (u l) k x (u l))
  by_subst_nat : {k : ℕ} {x : Quote} → Follows R.subst_nat [] (subst nat k x nat)
  by_subst_zero : {k : ℕ} {x : Quote} → Follows R.subst_zero [] (subst zero k x zero)
  by_subst_v_hit : {k : ℕ} {x : Quote} → Follows R.subst_v_hit [] (subst (v k) k x x)
  by_subst_v_lt : {n k : ℕ} {x : Quote} → Follows R.subst_v_lt (lt n k ∷ []) (subst (v n) k x (v n))
  by_subst_v_gt : {k n : ℕ} {x : Quote} → Follows R.subst_v_gt (lt k (suc n) ∷ []) (subst (v (suc n)) k x (v n))
  by_subst_pi :
      {a x a' x' b b' : Quote} {k : ℕ} →
      Follows R.subst_pi
      (subst a k x a'
      ∷ shift x 0 x'
      ∷ subst b (suc k) x' b'
      ∷ [])
      (subst (pi a b) k x (pi a' b'))
  by_subst_lam : {x x' b b' : Quote} {k : ℕ} → Follows R.subst_lam (shift x 0 x' ∷ subst b (suc k) x' b' ∷ []) (subst (lam b) k x (lam b'))
  by_subst_app : {f x f' a a' : Quote} {k : ℕ} → Follows R.subst_app (subst f k x f' ∷ subst a k x a' ∷ []) (subst (app f a) k x (app f' a'))
  by_subst_path :
      {x x' a a' b b' c c' : Quote} {k : ℕ} →
      Follows R.subst_path
      (dshift x 0 x'
      ∷ subst a k x' a'
      ∷ subst b k x b'
      ∷ subst c k x c'
      ∷ [])
      (subst (path a b c) k x (path a' b' c'))
  by_subst_plam : {x x' b b' : Quote} {k : ℕ} → Follows R.subst_plam (dshift x 0 x' ∷ subst b k x' b' ∷ []) (subst (plam b) k x (plam b'))
  by_subst_papp : {p x p' : Quote} {k : ℕ} {r : Interval} → Follows R.subst_papp (subst p k x p' ∷ []) (subst (papp p r) k x (papp p' r))
  -- dshift: dimensions from k on, up by one. The source's alone as a judgment: weakening by a name
  by_dshift_u : {l k : ℕ} → Follows R.dshift_u [] (dshift (u l) k (u l))
  by_dshift_nat : {k : ℕ} → Follows R.dshift_nat [] (dshift nat k nat)
  by_dshift_zero : {k : ℕ} → Follows R.dshift_zero [] (dshift zero k zero)
  by_dshift_v : {n k : ℕ} → Follows R.dshift_v [] (dshift (v n) k (v n))
  by_dshift_pi : {a a' b b' : Quote} {k : ℕ} → Follows R.dshift_pi (dshift a k a' ∷ dshift b k b' ∷ []) (dshift (pi a b) k (pi a' b'))
  by_dshift_lam : {b b' : Quote} {k : ℕ} → Follows R.dshift_lam (dshift b k b' ∷ []) (dshift (lam b) k (lam b'))
  by_dshift_app : {f f' a a' : Quote} {k : ℕ} → Follows R.dshift_app (dshift f k f' ∷ dshift a k a' ∷ []) (dshift (app f a) k (app f' a'))
  by_dshift_path :
      {a a' b b' c c' : Quote} {k : ℕ} →
      Follows R.dshift_path
      (dshift a (suc k) a'
      ∷ dshift b k b'
      ∷ dshift c k c'
      ∷ [])
      (dshift (path a b c) k (path a' b' c'))
  by_dshift_plam : {b b' : Quote} {k : ℕ} → Follows R.dshift_plam (dshift b (suc k) b' ∷ []) (dshift (plam b) k (plam b'))
  by_dshift_papp : {p p' : Quote} {k : ℕ} {r r' : Interval} → Follows R.dshift_papp (dshift p k p' ∷ ishift r k r' ∷ []) (dshift (papp p r) k (papp p' r'))
  -- dsubst: q for the dimension k. The source's alone as a judgment: the substitution (i/r) of section 3, with (i0) and (i1) among them
  by_dsubst_u : {l k : ℕ} {q : Interval} → Follows R.dsubst_u [] (dsubst (u l) k q (u l))
  by_dsubst_nat : {k : ℕ} {q : Interval} → Follows R.dsubst_nat [] (dsubst nat k q nat)
  by_dsubst_zero : {k : ℕ} {q : Interval} → Follows R.dsubst_zero [] (dsubst zero k q zero)
  by_dsubst_v : {n k : ℕ} {q : Interval} → Follows R.dsubst_v [] (dsubst (v n) k q (v n))
  by_dsubst_pi : {a a' b b' : Quote} {k : ℕ} {q : Interval} → Follows R.dsubst_pi (dsubst a k q a' ∷ dsubst b k q b' ∷ []) (dsubst (pi a b) k q (pi a' b'))
  by_dsubst_lam : {b b' : Quote} {k : ℕ} {q : Interval} → Follows R.dsubst_lam (dsubst b k q b' ∷ []) (dsubst (lam b) k q (lam b'))
  by_dsubst_app : {f f' a a' : Quote} {k : ℕ} {q : Interval} → Follows R.dsubst_app (dsubst f k q f' ∷ dsubst a k q a' ∷ []) (dsubst (app f a) k q (app f' a'))
  by_dsubst_path :
      {q q' : Interval} {a a' b b' c c' : Quote} {k : ℕ} →
      Follows R.dsubst_path
      (ishift q 0 q'
      ∷ dsubst a (suc k) q' a'
      ∷ dsubst b k q b'
      ∷ dsubst c k q c'
      ∷ [])
      (dsubst (path a b c) k q (path a' b' c'))
  by_dsubst_plam : {q q' : Interval} {b b' : Quote} {k : ℕ} → Follows R.dsubst_plam (ishift q 0 q' ∷ dsubst b (suc k) q' b' ∷ []) (dsubst (plam b) k q (plam b'))
  by_dsubst_papp : {p p' : Quote} {k : ℕ} {q r r' : Interval} → Follows R.dsubst_papp (dsubst p k q p' ∷ isubst r k q r' ∷ []) (dsubst (papp p r) k q (papp p' r'))
  -- typing
  -- u: the source's alone. CCHM has one universe, in section 7, and no levels
  by_type_u : {d l : ℕ} {g : Quotes} → Follows R.type_u (ctx d g ∷ []) (has d g (u l) (u (suc l)))
  -- nat, zero, v: natural numbers, zero and the variable rule of Figure 1
  by_type_nat : {d : ℕ} {g : Quotes} → Follows R.type_nat (ctx d g ∷ []) (has d g nat (u 0))
  by_type_zero : {d : ℕ} {g : Quotes} → Follows R.type_zero (ctx d g ∷ []) (has d g zero nat)
  by_type_v : {d n : ℕ} {g : Quotes} {A : Quote} → Follows R.type_v (ctx d g ∷ lookup g n A ∷ []) (has d g (v n) A)
  -- pi: function types of Figure 1. Added: the level, by max
  by_type_pi :
      {d i j k : ℕ} {g : Quotes} {A B : Quote} →
      Follows R.type_pi
      (has d g A (u i)
      ∷ has d (cons A g) B (u j)
      ∷ max i j k
      ∷ [])
      (has d g (pi A B) (u k))
  -- lam: abstraction of Figure 1. Added: that both types are formed
  by_type_lam :
      {d i j : ℕ} {g : Quotes} {A b B : Quote} →
      Follows R.type_lam
      (has d g A (u i)
      ∷ has d (cons A g) b B
      ∷ has d (cons A g) B (u j)
      ∷ [])
      (has d g (lam b) (pi A B))
  -- app: application of Figure 1, B(x/u) by a premise
  by_type_app :
      {d : ℕ} {g : Quotes} {f A B a B' : Quote} →
      Follows R.type_app
      (has d g f (pi A B)
      ∷ has d g a A
      ∷ subst B 0 a B'
      ∷ [])
      (has d g (app f a) B')
  -- path: path types of Figure 2, for A that depends on the dimension: the ends have the types A(i0) and A(i1), where CCHM has A twice.
  -- Added: the level, which is A's
  by_type_path :
      {d l : ℕ} {g g' : Quotes} {A A0 A1 b c : Quote} →
      Follows R.type_path
      (ctx d g
      ∷ dshiftctx g 0 g'
      ∷ has (suc d) g' A (u l)
      ∷ dsubst A 0 I0 A0
      ∷ dsubst A 0 I1 A1
      ∷ has d g b A0
      ∷ has d g c A1
      ∷ [])
      (has d g (path A b c) (u l))
  -- plam: <i> t of Figure 2, at a path type as above. Added: that A is formed, and that the ends of the body have the types of the ends
  by_type_plam :
      {d l : ℕ} {g g' : Quotes} {A t A0 A1 t0 t1 : Quote} →
      Follows R.type_plam
      (ctx d g
      ∷ dshiftctx g 0 g'
      ∷ has (suc d) g' A (u l)
      ∷ has (suc d) g' t A
      ∷ dsubst A 0 I0 A0
      ∷ dsubst A 0 I1 A1
      ∷ dsubst t 0 I0 t0
      ∷ dsubst t 0 I1 t1
      ∷ has d g t0 A0
      ∷ has d g t1 A1
      ∷ [])
      (has d g (plam t) (path A t0 t1))
  -- papp: p r of Figure 2, of type A(i/r). Added: that this type is formed
  by_type_papp :
      {d l : ℕ} {g : Quotes} {p A b c B : Quote} {r : Interval} →
      Follows R.type_papp
      (has d g p (path A b c)
      ∷ interval d r
      ∷ dsubst A 0 r B
      ∷ has d g B (u l)
      ∷ [])
      (has d g (papp p r) B)
  -- conv: the conversion rule of Figure 1, for an equation at a universe. Added: that B is formed, at that level
  by_type_conv :
      {d l : ℕ} {g : Quotes} {t A B : Quote} →
      Follows R.type_conv
      (has d g t A
      ∷ eq d g A B (u l)
      ∷ has d g B (u l)
      ∷ [])
      (has d g t B)
  -- equality
  -- refl, sym, trans: that equality is an equivalence, which section 2 takes for granted. (It takes congruence too, and has eta in both
  -- figures: neither is here)
  by_eq_refl : {d : ℕ} {g : Quotes} {t A : Quote} → Follows R.eq_refl (has d g t A ∷ []) (eq d g t t A)
  by_eq_sym : {d : ℕ} {g : Quotes} {a b A : Quote} → Follows R.eq_sym (eq d g a b A ∷ []) (eq d g b a A)
  by_eq_trans : {d : ℕ} {g : Quotes} {a b A c : Quote} → Follows R.eq_trans (eq d g a b A ∷ eq d g b c A ∷ []) (eq d g a c A)
  -- beta: the equation of Figure 1 for an abstraction that is applied. Added: that both types are formed
  by_eq_beta :
      {d i j : ℕ} {g : Quotes} {A b B a b' B' : Quote} →
      Follows R.eq_beta
      (has d g A (u i)
      ∷ has d (cons A g) b B
      ∷ has d (cons A g) B (u j)
      ∷ has d g a A
      ∷ subst b 0 a b'
      ∷ subst B 0 a B'
      ∷ [])
      (eq d g (app (lam b) a) b' B')
  -- pbeta: the equation of Figure 2 for <i> t that is applied. Added: that the result has the type A(i/r)
  by_eq_pbeta :
      {d : ℕ} {g : Quotes} {t A b c B t' : Quote} {r : Interval} →
      Follows R.eq_pbeta
      (has d g (plam t) (path A b c)
      ∷ interval d r
      ∷ dsubst A 0 r B
      ∷ dsubst t 0 r t'
      ∷ has d g t' B
      ∷ [])
      (eq d g (papp (plam t) r) t' B)
  -- p0, p1: the equations of Figure 2 for p 0 and p 1, at a literal end. Added: that the end has the type A(i0), or A(i1)
  by_eq_p0 :
      {d : ℕ} {g : Quotes} {p A b c B : Quote} →
      Follows R.eq_p0
      (has d g p (path A b c)
      ∷ dsubst A 0 I0 B
      ∷ has d g b B
      ∷ [])
      (eq d g (papp p I0) b B)
  by_eq_p1 :
      {d : ℕ} {g : Quotes} {p A b c B : Quote} →
      Follows R.eq_p1
      (has d g p (path A b c)
      ∷ dsubst A 0 I1 B
      ∷ has d g c B
      ∷ [])
      (eq d g (papp p I1) c B)
  -- sigma types, after the others
  -- sigma: pair types of Figure 1. Added: the level, by max
  by_type_sigma :
      {d i j k : ℕ} {g : Quotes} {A B : Quote} →
      Follows R.type_sigma
      (has d g A (u i)
      ∷ has d (cons A g) B (u j)
      ∷ max i j k
      ∷ [])
      (has d g (sigma A B) (u k))
  -- pair: pairing of Figure 1. Added: that both types are formed, and that the second part's is, at B's level
  by_type_pair :
      {d i j : ℕ} {g : Quotes} {A B a b B' : Quote} →
      Follows R.type_pair
      (has d g A (u i)
      ∷ has d (cons A g) B (u j)
      ∷ has d g a A
      ∷ subst B 0 a B'
      ∷ has d g B' (u j)
      ∷ has d g b B'
      ∷ [])
      (has d g (pair a b) (sigma A B))
  -- fst, snd: the projections of Figure 1, B(x/p.1) by a premise. Added: that the type is formed
  by_type_fst : {d l : ℕ} {g : Quotes} {p A B : Quote} → Follows R.type_fst (has d g p (sigma A B) ∷ has d g A (u l) ∷ []) (has d g (fst p) A)
  by_type_snd :
      {d l : ℕ} {g : Quotes} {p A B B' : Quote} →
      Follows R.type_snd
      (has d g p (sigma A B)
      ∷ subst B 0 (fst p) B'
      ∷ has d g B' (u l)
      ∷ [])
      (has d g (snd p) B')
  -- fst-beta, snd-beta: the equations of Figure 1 for the projections of a pair. Added: that the part has the type; A and B are those of a
  -- type that the pair has
  by_eq_fst_beta : {d : ℕ} {g : Quotes} {a b A B : Quote} → Follows R.eq_fst_beta (has d g (pair a b) (sigma A B) ∷ has d g a A ∷ []) (eq d g (fst (pair a b)) a A)
  by_eq_snd_beta :
      {d : ℕ} {g : Quotes} {a b A B B' : Quote} →
      Follows R.eq_snd_beta
      (has d g (pair a b) (sigma A B)
      ∷ subst B 0 (fst (pair a b)) B'
      ∷ has d g b B'
      ∷ [])
      (eq d g (snd (pair a b)) b B')
  -- the transforms of these kinds, as of the others
  by_shift_sigma : {a a' b b' : Quote} {k : ℕ} → Follows R.shift_sigma (shift a k a' ∷ shift b (suc k) b' ∷ []) (shift (sigma a b) k (sigma a' b'))
  by_shift_pair : {a a' b b' : Quote} {k : ℕ} → Follows R.shift_pair (shift a k a' ∷ shift b k b' ∷ []) (shift (pair a b) k (pair a' b'))
  by_shift_fst : {p p' : Quote} {k : ℕ} → Follows R.shift_fst (shift p k p' ∷ []) (shift (fst p) k (fst p'))
  by_shift_snd : {p p' : Quote} {k : ℕ} → Follows R.shift_snd (shift p k p' ∷ []) (shift (snd p) k (snd p'))
  by_subst_sigma :
      {a x a' x' b b' : Quote} {k : ℕ} →
      Follows R.subst_sigma
      (subst a k x a'
      ∷ shift x 0 x'
      ∷ subst b (suc k) x' b'
      ∷ [])
      (subst (sigma a b) k x (sigma a' b'))
  by_subst_pair : {a x a' b b' : Quote} {k : ℕ} → Follows R.subst_pair (subst a k x a' ∷ subst b k x b' ∷ []) (subst (pair a b) k x (pair a' b'))
  by_subst_fst : {p x p' : Quote} {k : ℕ} → Follows R.subst_fst (subst p k x p' ∷ []) (subst (fst p) k x (fst p'))
  by_subst_snd : {p x p' : Quote} {k : ℕ} → Follows R.subst_snd (subst p k x p' ∷ []) (subst (snd p) k x (snd p'))
  by_dshift_sigma : {a a' b b' : Quote} {k : ℕ} → Follows R.dshift_sigma (dshift a k a' ∷ dshift b k b' ∷ []) (dshift (sigma a b) k (sigma a' b'))
  by_dshift_pair : {a a' b b' : Quote} {k : ℕ} → Follows R.dshift_pair (dshift a k a' ∷ dshift b k b' ∷ []) (dshift (pair a b) k (pair a' b'))
  by_dshift_fst : {p p' : Quote} {k : ℕ} → Follows R.dshift_fst (dshift p k p' ∷ []) (dshift (fst p) k (fst p'))
  by_dshift_snd : {p p' : Quote} {k : ℕ} → Follows R.dshift_snd (dshift p k p' ∷ []) (dshift (snd p) k (snd p'))
  by_dsubst_sigma : {a a' b b' : Quote} {k : ℕ} {q : Interval} → Follows R.dsubst_sigma (dsubst a k q a' ∷ dsubst b k q b' ∷ []) (dsubst (sigma a b) k q (sigma a' b'))
  by_dsubst_pair : {a a' b b' : Quote} {k : ℕ} {q : Interval} → Follows R.dsubst_pair (dsubst a k q a' ∷ dsubst b k q b' ∷ []) (dsubst (pair a b) k q (pair a' b'))
  by_dsubst_fst : {p p' : Quote} {k : ℕ} {q : Interval} → Follows R.dsubst_fst (dsubst p k q p' ∷ []) (dsubst (fst p) k q (fst p'))
  by_dsubst_snd : {p p' : Quote} {k : ℕ} {q : Interval} → Follows R.dsubst_snd (dsubst p k q p' ∷ []) (dsubst (snd p) k q (snd p'))
  -- iend: the source's alone as a judgment. The laws of the De Morgan algebra 𝕀 of section 3 by which r is 0 or 1, whatever its names are.
  -- neg turns an end round; 0 decides a meet and 1 a join from either side, else both sides are cited
  by_iend_0 : Follows R.iend_0 [] (iend I0 I0)
  by_iend_1 : Follows R.iend_1 [] (iend I1 I1)
  by_iend_neg_0 : {r : Interval} → Follows R.iend_neg (iend r I0 ∷ []) (iend (Neg r) I1)
  by_iend_neg_1 : {r : Interval} → Follows R.iend_neg (iend r I1 ∷ []) (iend (Neg r) I0)
  by_iend_meet_0 : {r s : Interval} → Follows R.iend_meet (iend r I0 ∷ []) (iend (Meet r s) I0)
  by_iend_meet_1 : {r s : Interval} → Follows R.iend_meet (iend s I0 ∷ []) (iend (Meet r s) I0)
  by_iend_meet_2 : {r s : Interval} → Follows R.iend_meet (iend r I1 ∷ iend s I1 ∷ []) (iend (Meet r s) I1)
  by_iend_join_0 : {r s : Interval} → Follows R.iend_join (iend r I1 ∷ []) (iend (Join r s) I1)
  by_iend_join_1 : {r s : Interval} → Follows R.iend_join (iend s I1 ∷ []) (iend (Join r s) I1)
  by_iend_join_2 : {r s : Interval} → Follows R.iend_join (iend r I0 ∷ iend s I0 ∷ []) (iend (Join r s) I0)
  -- p0-val, p1-val: the equations of Figure 2 for p 0 and p 1, at an interval that works out to the end. Added: as at p0 and p1, for A(i/r)
  by_eq_p0_val :
      {d : ℕ} {g : Quotes} {p A b c B : Quote} {r : Interval} →
      Follows R.eq_p0_val
      (iend r I0
      ∷ has d g p (path A b c)
      ∷ interval d r
      ∷ dsubst A 0 r B
      ∷ has d g b B
      ∷ [])
      (eq d g (papp p r) b B)
  by_eq_p1_val :
      {d : ℕ} {g : Quotes} {p A b c B : Quote} {r : Interval} →
      Follows R.eq_p1_val
      (iend r I1
      ∷ has d g p (path A b c)
      ∷ interval d r
      ∷ dsubst A 0 r B
      ∷ has d g c B
      ∷ [])
      (eq d g (papp p r) c B)
  -- app-cong, papp-cong: that app and papp respect an equality of the head, which CCHM takes for granted. Added: the argument or the interval,
  -- B(x/a) or A(i/r) by a premise, and that both sides have that type
  by_eq_app_cong :
      {d : ℕ} {g : Quotes} {f f' a A B B' : Quote} →
      Follows R.eq_app_cong
      (eq d g f f' (pi A B)
      ∷ has d g a A
      ∷ subst B 0 a B'
      ∷ has d g (app f a) B'
      ∷ has d g (app f' a) B'
      ∷ [])
      (eq d g (app f a) (app f' a) B')
  by_eq_papp_cong :
      {d : ℕ} {g : Quotes} {p p' A b c B : Quote} {r : Interval} →
      Follows R.eq_papp_cong
      (eq d g p p' (path A b c)
      ∷ interval d r
      ∷ dsubst A 0 r B
      ∷ has d g (papp p r) B
      ∷ has d g (papp p' r) B
      ∷ [])
      (eq d g (papp p r) (papp p' r) B)
