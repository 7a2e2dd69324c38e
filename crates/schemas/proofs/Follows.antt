-- What follows by a rule is an instance of one of its lines, and the other way about; so matching decides it.
use Rattle.std.specs.Prelude.{ℕ, suc, ◌≡◌, refl, List, [], ◌∷◌, T, ltb, length}
use Rattle.std.proofs.Math.Decide.{ℕ_discrete}
use Rattle.std.proofs.Math.Dec.{leb-suc-zero, leb-suc-suc}
use Rattle.walk.specs.Judgment.{Judgment}
use Rattle.walk.specs.Rules.{Follows}
use Rattle.walk.specs.Rules as R
use Rattle.schemas.specs.Tree.{Value, Env, instance}
use Rattle.schemas.specs.Code.{step, premises, conclusion, read_premises, read_conclusion}
use Rattle.schemas.specs.Match.{fillings}
use Rattle.schemas.proofs.Match.{decide}
use Rattle.schemas.specs.Table.{Line, pattern, lines}
use Rattle.schemas.specs.Follows.{Instance, here, there, All, all, ◌and◌, line}

-- Every instance of a line follows by its rule.

holds : All lines
holds =
    -- written by tools/written.py: each line holds
    (λ e. R.by_ctx_nil) and
    (λ e. R.by_ctx_cons) and
    (λ e. R.by_dshiftctx_nil) and
    (λ e. R.by_dshiftctx_cons) and
    (λ e. R.by_lookup_z) and
    (λ e. R.by_lookup_s) and
    (λ e. R.by_lt_z) and
    (λ e. R.by_lt_s) and
    (λ e. R.by_le_z) and
    (λ e. R.by_le_s) and
    (λ e. R.by_max_z) and
    (λ e. R.by_max_sz) and
    (λ e. R.by_max_ss) and
    (λ e. R.by_interval_0) and
    (λ e. R.by_interval_1) and
    (λ e. R.by_interval_dim) and
    (λ e. R.by_interval_neg) and
    (λ e. R.by_interval_meet) and
    (λ e. R.by_interval_join) and
    (λ e. R.by_ishift_0) and
    (λ e. R.by_ishift_1) and
    (λ e. R.by_ishift_dim_lt) and
    (λ e. R.by_ishift_dim_ge) and
    (λ e. R.by_ishift_neg) and
    (λ e. R.by_ishift_meet) and
    (λ e. R.by_ishift_join) and
    (λ e. R.by_isubst_0) and
    (λ e. R.by_isubst_1) and
    (λ e. R.by_isubst_dim_hit) and
    (λ e. R.by_isubst_dim_lt) and
    (λ e. R.by_isubst_dim_gt) and
    (λ e. R.by_isubst_neg) and
    (λ e. R.by_isubst_meet) and
    (λ e. R.by_isubst_join) and
    (λ e. R.by_shift_u) and
    (λ e. R.by_shift_nat) and
    (λ e. R.by_shift_zero) and
    (λ e. R.by_shift_v_lt) and
    (λ e. R.by_shift_v_ge) and
    (λ e. R.by_shift_pi) and
    (λ e. R.by_shift_lam) and
    (λ e. R.by_shift_app) and
    (λ e. R.by_shift_path) and
    (λ e. R.by_shift_plam) and
    (λ e. R.by_shift_papp) and
    (λ e. R.by_subst_u) and
    (λ e. R.by_subst_nat) and
    (λ e. R.by_subst_zero) and
    (λ e. R.by_subst_v_hit) and
    (λ e. R.by_subst_v_lt) and
    (λ e. R.by_subst_v_gt) and
    (λ e. R.by_subst_pi) and
    (λ e. R.by_subst_lam) and
    (λ e. R.by_subst_app) and
    (λ e. R.by_subst_path) and
    (λ e. R.by_subst_plam) and
    (λ e. R.by_subst_papp) and
    (λ e. R.by_dshift_u) and
    (λ e. R.by_dshift_nat) and
    (λ e. R.by_dshift_zero) and
    (λ e. R.by_dshift_v) and
    (λ e. R.by_dshift_pi) and
    (λ e. R.by_dshift_lam) and
    (λ e. R.by_dshift_app) and
    (λ e. R.by_dshift_path) and
    (λ e. R.by_dshift_plam) and
    (λ e. R.by_dshift_papp) and
    (λ e. R.by_dsubst_u) and
    (λ e. R.by_dsubst_nat) and
    (λ e. R.by_dsubst_zero) and
    (λ e. R.by_dsubst_v) and
    (λ e. R.by_dsubst_pi) and
    (λ e. R.by_dsubst_lam) and
    (λ e. R.by_dsubst_app) and
    (λ e. R.by_dsubst_path) and
    (λ e. R.by_dsubst_plam) and
    (λ e. R.by_dsubst_papp) and
    (λ e. R.by_type_u) and
    (λ e. R.by_type_nat) and
    (λ e. R.by_type_zero) and
    (λ e. R.by_type_v) and
    (λ e. R.by_type_pi) and
    (λ e. R.by_type_lam) and
    (λ e. R.by_type_app) and
    (λ e. R.by_type_path) and
    (λ e. R.by_type_plam) and
    (λ e. R.by_type_papp) and
    (λ e. R.by_type_conv) and
    (λ e. R.by_eq_refl) and
    (λ e. R.by_eq_sym) and
    (λ e. R.by_eq_trans) and
    (λ e. R.by_eq_beta) and
    (λ e. R.by_eq_pbeta) and
    (λ e. R.by_eq_p0) and
    (λ e. R.by_eq_p1) and
    (λ e. R.by_type_sigma) and
    (λ e. R.by_type_pair) and
    (λ e. R.by_type_fst) and
    (λ e. R.by_type_snd) and
    (λ e. R.by_eq_fst_beta) and
    (λ e. R.by_eq_snd_beta) and
    (λ e. R.by_shift_sigma) and
    (λ e. R.by_shift_pair) and
    (λ e. R.by_shift_fst) and
    (λ e. R.by_shift_snd) and
    (λ e. R.by_subst_sigma) and
    (λ e. R.by_subst_pair) and
    (λ e. R.by_subst_fst) and
    (λ e. R.by_subst_snd) and
    (λ e. R.by_dshift_sigma) and
    (λ e. R.by_dshift_pair) and
    (λ e. R.by_dshift_fst) and
    (λ e. R.by_dshift_snd) and
    (λ e. R.by_dsubst_sigma) and
    (λ e. R.by_dsubst_pair) and
    (λ e. R.by_dsubst_fst) and
    (λ e. R.by_dsubst_snd) and
    (λ e. R.by_iend_0) and
    (λ e. R.by_iend_1) and
    (λ e. R.by_iend_neg_0) and
    (λ e. R.by_iend_neg_1) and
    (λ e. R.by_iend_meet_0) and
    (λ e. R.by_iend_meet_1) and
    (λ e. R.by_iend_meet_2) and
    (λ e. R.by_iend_join_0) and
    (λ e. R.by_iend_join_1) and
    (λ e. R.by_iend_join_2) and
    (λ e. R.by_eq_p0_val) and
    (λ e. R.by_eq_p1_val) and
    (λ e. R.by_eq_app_cong) and
    (λ e. R.by_eq_papp_cong) and
    -- end of each line holds
    all

sound_in : {ls : List Line} {n : ℕ} {t : Value} → All ls → Instance n t ls → Follows n (premises t) (conclusion t)
sound_in all x = elim x [ ]
sound_in (h and hs) (here q e i) = rw (← i, ← q) (h e)
sound_in (h and hs) (there x) = sound_in hs x

pub sound : {n : ℕ} {js : List Judgment} {j : Judgment} → Instance n (step js j) lines → Follows n js j
sound {n} {js} {j} x = rw (read_premises js j, read_conclusion js j) at (sound_in holds x)

-- What follows is the instance at the fillings taken from it.

find : {n : ℕ} {t : Value} (ls : List Line) (k : ℕ) → T (ltb k (length ls)) → (line k ls).rule ≡ n → instance (fillings (pattern (line k ls)) t) (pattern (line k ls)) ≡ t → Instance n t ls
find [] k h q i = absurd (rw (leb-suc-zero k) at h)
find {t} (l ∷ ls) ℕ.zero h q i = here q (fillings (pattern l) t) i
find (l ∷ ls) (ℕ.suc k) h q i = there (find ls k (rw (leb-suc-suc (suc k) (length ls)) at h) q i)

pub complete : {n : ℕ} {js : List Judgment} {j : Judgment} → Follows n js j → Instance n (step js j) lines
-- written by tools/written.py: each rule has its line
complete R.by_ctx_nil = find lines 0 tt refl refl
complete R.by_ctx_cons = find lines 1 tt refl refl
complete R.by_dshiftctx_nil = find lines 2 tt refl refl
complete R.by_dshiftctx_cons = find lines 3 tt refl refl
complete R.by_lookup_z = find lines 4 tt refl refl
complete R.by_lookup_s = find lines 5 tt refl refl
complete R.by_lt_z = find lines 6 tt refl refl
complete R.by_lt_s = find lines 7 tt refl refl
complete R.by_le_z = find lines 8 tt refl refl
complete R.by_le_s = find lines 9 tt refl refl
complete R.by_max_z = find lines 10 tt refl refl
complete R.by_max_sz = find lines 11 tt refl refl
complete R.by_max_ss = find lines 12 tt refl refl
complete R.by_interval_0 = find lines 13 tt refl refl
complete R.by_interval_1 = find lines 14 tt refl refl
complete R.by_interval_dim = find lines 15 tt refl refl
complete R.by_interval_neg = find lines 16 tt refl refl
complete R.by_interval_meet = find lines 17 tt refl refl
complete R.by_interval_join = find lines 18 tt refl refl
complete R.by_ishift_0 = find lines 19 tt refl refl
complete R.by_ishift_1 = find lines 20 tt refl refl
complete R.by_ishift_dim_lt = find lines 21 tt refl refl
complete R.by_ishift_dim_ge = find lines 22 tt refl refl
complete R.by_ishift_neg = find lines 23 tt refl refl
complete R.by_ishift_meet = find lines 24 tt refl refl
complete R.by_ishift_join = find lines 25 tt refl refl
complete R.by_isubst_0 = find lines 26 tt refl refl
complete R.by_isubst_1 = find lines 27 tt refl refl
complete R.by_isubst_dim_hit = find lines 28 tt refl refl
complete R.by_isubst_dim_lt = find lines 29 tt refl refl
complete R.by_isubst_dim_gt = find lines 30 tt refl refl
complete R.by_isubst_neg = find lines 31 tt refl refl
complete R.by_isubst_meet = find lines 32 tt refl refl
complete R.by_isubst_join = find lines 33 tt refl refl
complete R.by_shift_u = find lines 34 tt refl refl
complete R.by_shift_nat = find lines 35 tt refl refl
complete R.by_shift_zero = find lines 36 tt refl refl
complete R.by_shift_v_lt = find lines 37 tt refl refl
complete R.by_shift_v_ge = find lines 38 tt refl refl
complete R.by_shift_pi = find lines 39 tt refl refl
complete R.by_shift_lam = find lines 40 tt refl refl
complete R.by_shift_app = find lines 41 tt refl refl
complete R.by_shift_path = find lines 42 tt refl refl
complete R.by_shift_plam = find lines 43 tt refl refl
complete R.by_shift_papp = find lines 44 tt refl refl
complete R.by_subst_u = find lines 45 tt refl refl
complete R.by_subst_nat = find lines 46 tt refl refl
complete R.by_subst_zero = find lines 47 tt refl refl
complete R.by_subst_v_hit = find lines 48 tt refl refl
complete R.by_subst_v_lt = find lines 49 tt refl refl
complete R.by_subst_v_gt = find lines 50 tt refl refl
complete R.by_subst_pi = find lines 51 tt refl refl
complete R.by_subst_lam = find lines 52 tt refl refl
complete R.by_subst_app = find lines 53 tt refl refl
complete R.by_subst_path = find lines 54 tt refl refl
complete R.by_subst_plam = find lines 55 tt refl refl
complete R.by_subst_papp = find lines 56 tt refl refl
complete R.by_dshift_u = find lines 57 tt refl refl
complete R.by_dshift_nat = find lines 58 tt refl refl
complete R.by_dshift_zero = find lines 59 tt refl refl
complete R.by_dshift_v = find lines 60 tt refl refl
complete R.by_dshift_pi = find lines 61 tt refl refl
complete R.by_dshift_lam = find lines 62 tt refl refl
complete R.by_dshift_app = find lines 63 tt refl refl
complete R.by_dshift_path = find lines 64 tt refl refl
complete R.by_dshift_plam = find lines 65 tt refl refl
complete R.by_dshift_papp = find lines 66 tt refl refl
complete R.by_dsubst_u = find lines 67 tt refl refl
complete R.by_dsubst_nat = find lines 68 tt refl refl
complete R.by_dsubst_zero = find lines 69 tt refl refl
complete R.by_dsubst_v = find lines 70 tt refl refl
complete R.by_dsubst_pi = find lines 71 tt refl refl
complete R.by_dsubst_lam = find lines 72 tt refl refl
complete R.by_dsubst_app = find lines 73 tt refl refl
complete R.by_dsubst_path = find lines 74 tt refl refl
complete R.by_dsubst_plam = find lines 75 tt refl refl
complete R.by_dsubst_papp = find lines 76 tt refl refl
complete R.by_type_u = find lines 77 tt refl refl
complete R.by_type_nat = find lines 78 tt refl refl
complete R.by_type_zero = find lines 79 tt refl refl
complete R.by_type_v = find lines 80 tt refl refl
complete R.by_type_pi = find lines 81 tt refl refl
complete R.by_type_lam = find lines 82 tt refl refl
complete R.by_type_app = find lines 83 tt refl refl
complete R.by_type_path = find lines 84 tt refl refl
complete R.by_type_plam = find lines 85 tt refl refl
complete R.by_type_papp = find lines 86 tt refl refl
complete R.by_type_conv = find lines 87 tt refl refl
complete R.by_eq_refl = find lines 88 tt refl refl
complete R.by_eq_sym = find lines 89 tt refl refl
complete R.by_eq_trans = find lines 90 tt refl refl
complete R.by_eq_beta = find lines 91 tt refl refl
complete R.by_eq_pbeta = find lines 92 tt refl refl
complete R.by_eq_p0 = find lines 93 tt refl refl
complete R.by_eq_p1 = find lines 94 tt refl refl
complete R.by_type_sigma = find lines 95 tt refl refl
complete R.by_type_pair = find lines 96 tt refl refl
complete R.by_type_fst = find lines 97 tt refl refl
complete R.by_type_snd = find lines 98 tt refl refl
complete R.by_eq_fst_beta = find lines 99 tt refl refl
complete R.by_eq_snd_beta = find lines 100 tt refl refl
complete R.by_shift_sigma = find lines 101 tt refl refl
complete R.by_shift_pair = find lines 102 tt refl refl
complete R.by_shift_fst = find lines 103 tt refl refl
complete R.by_shift_snd = find lines 104 tt refl refl
complete R.by_subst_sigma = find lines 105 tt refl refl
complete R.by_subst_pair = find lines 106 tt refl refl
complete R.by_subst_fst = find lines 107 tt refl refl
complete R.by_subst_snd = find lines 108 tt refl refl
complete R.by_dshift_sigma = find lines 109 tt refl refl
complete R.by_dshift_pair = find lines 110 tt refl refl
complete R.by_dshift_fst = find lines 111 tt refl refl
complete R.by_dshift_snd = find lines 112 tt refl refl
complete R.by_dsubst_sigma = find lines 113 tt refl refl
complete R.by_dsubst_pair = find lines 114 tt refl refl
complete R.by_dsubst_fst = find lines 115 tt refl refl
complete R.by_dsubst_snd = find lines 116 tt refl refl
complete R.by_iend_0 = find lines 117 tt refl refl
complete R.by_iend_1 = find lines 118 tt refl refl
complete R.by_iend_neg_0 = find lines 119 tt refl refl
complete R.by_iend_neg_1 = find lines 120 tt refl refl
complete R.by_iend_meet_0 = find lines 121 tt refl refl
complete R.by_iend_meet_1 = find lines 122 tt refl refl
complete R.by_iend_meet_2 = find lines 123 tt refl refl
complete R.by_iend_join_0 = find lines 124 tt refl refl
complete R.by_iend_join_1 = find lines 125 tt refl refl
complete R.by_iend_join_2 = find lines 126 tt refl refl
complete R.by_eq_p0_val = find lines 127 tt refl refl
complete R.by_eq_p1_val = find lines 128 tt refl refl
complete R.by_eq_app_cong = find lines 129 tt refl refl
complete R.by_eq_papp_cong = find lines 130 tt refl refl

-- end of each rule has its line

-- The decision.
neither : {n : ℕ} {t : Value} {l : Line} {ls : List Line} → (l.rule ≡ n → ¬ ((e : Env) × (instance e (pattern l) ≡ t))) → ¬ (Instance n t ls) → Instance n t (l ∷ ls) → ⊥
neither k m (here q e i) = k q (e, i)
neither k m (there x) = m x

one_of : {n : ℕ} {t : Value} {ls : List Line} (l : Line) → Dec (l.rule ≡ n) → Dec ((e : Env) × (instance e (pattern l) ≡ t)) → Dec (Instance n t ls) → Dec (Instance n t (l ∷ ls))
one_of l (yes q) (yes x) d = yes (here q x.0 x.1)
one_of l (yes q) (no k) (yes x) = yes (there x)
one_of l (yes q) (no k) (no m) = no (neither (λ _. k) m)
one_of l (no k) d (yes x) = yes (there x)
one_of l (no k) d (no m) = no (neither (λ q. absurd (k q)) m)

pub instance? : (n : ℕ) (t : Value) (ls : List Line) → Dec (Instance n t ls)
instance? n t [] = no λ x. elim x [ ]
instance? n t (l ∷ ls) = one_of l (ℕ_discrete l.rule n) (decide (pattern l) t) (instance? n t ls)

pub follows? : (n : ℕ) (js : List Judgment) (j : Judgment) → Dec (Follows n js j)
follows? n js j = go (instance? n (step js j) lines)
  where
    go : Dec (Instance n (step js j) lines) → Dec (Follows n js j)
    go (yes x) = yes (sound x)
    go (no k) = no λ x. k (complete x)
