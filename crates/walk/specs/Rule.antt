-- The rules by number, in the order of docs/FORMAT.md: `eq_p1` is its eq.p1; with their names and what each concludes.
-- Written by tools/written.py from tools/language.py; `python3 tools/written.py` makes it again.
use Rattle.std.specs.Prelude.{ℕ, suc, ◌≡◌, refl, List, [], ◌∷◌, get_or}
use Prim.Native.String.{String}

abbrev pub ctx_nil : ℕ
ctx_nil = 0

abbrev pub ctx_cons : ℕ
ctx_cons = 1

abbrev pub dshiftctx_nil : ℕ
dshiftctx_nil = 2

abbrev pub dshiftctx_cons : ℕ
dshiftctx_cons = 3

abbrev pub lookup_z : ℕ
lookup_z = 4

abbrev pub lookup_s : ℕ
lookup_s = 5

abbrev pub lt_z : ℕ
lt_z = 6

abbrev pub lt_s : ℕ
lt_s = 7

abbrev pub le_z : ℕ
le_z = 8

abbrev pub le_s : ℕ
le_s = 9

abbrev pub max_z : ℕ
max_z = 10

abbrev pub max_sz : ℕ
max_sz = 11

abbrev pub max_ss : ℕ
max_ss = 12

abbrev pub interval_0 : ℕ
interval_0 = 13

abbrev pub interval_1 : ℕ
interval_1 = 14

abbrev pub interval_dim : ℕ
interval_dim = 15

abbrev pub interval_neg : ℕ
interval_neg = 16

abbrev pub interval_meet : ℕ
interval_meet = 17

abbrev pub interval_join : ℕ
interval_join = 18

abbrev pub ishift_0 : ℕ
ishift_0 = 19

abbrev pub ishift_1 : ℕ
ishift_1 = 20

abbrev pub ishift_dim_lt : ℕ
ishift_dim_lt = 21

abbrev pub ishift_dim_ge : ℕ
ishift_dim_ge = 22

abbrev pub ishift_neg : ℕ
ishift_neg = 23

abbrev pub ishift_meet : ℕ
ishift_meet = 24

abbrev pub ishift_join : ℕ
ishift_join = 25

abbrev pub isubst_0 : ℕ
isubst_0 = 26

abbrev pub isubst_1 : ℕ
isubst_1 = 27

abbrev pub isubst_dim_hit : ℕ
isubst_dim_hit = 28

abbrev pub isubst_dim_lt : ℕ
isubst_dim_lt = 29

abbrev pub isubst_dim_gt : ℕ
isubst_dim_gt = 30

abbrev pub isubst_neg : ℕ
isubst_neg = 31

abbrev pub isubst_meet : ℕ
isubst_meet = 32

abbrev pub isubst_join : ℕ
isubst_join = 33

abbrev pub shift_u : ℕ
shift_u = 34

abbrev pub shift_nat : ℕ
shift_nat = 35

abbrev pub shift_zero : ℕ
shift_zero = 36

abbrev pub shift_v_lt : ℕ
shift_v_lt = 37

abbrev pub shift_v_ge : ℕ
shift_v_ge = 38

abbrev pub shift_pi : ℕ
shift_pi = 39

abbrev pub shift_lam : ℕ
shift_lam = 40

abbrev pub shift_app : ℕ
shift_app = 41

abbrev pub shift_path : ℕ
shift_path = 42

abbrev pub shift_plam : ℕ
shift_plam = 43

abbrev pub shift_papp : ℕ
shift_papp = 44

abbrev pub subst_u : ℕ
subst_u = 45

abbrev pub subst_nat : ℕ
subst_nat = 46

abbrev pub subst_zero : ℕ
subst_zero = 47

abbrev pub subst_v_hit : ℕ
subst_v_hit = 48

abbrev pub subst_v_lt : ℕ
subst_v_lt = 49

abbrev pub subst_v_gt : ℕ
subst_v_gt = 50

abbrev pub subst_pi : ℕ
subst_pi = 51

abbrev pub subst_lam : ℕ
subst_lam = 52

abbrev pub subst_app : ℕ
subst_app = 53

abbrev pub subst_path : ℕ
subst_path = 54

abbrev pub subst_plam : ℕ
subst_plam = 55

abbrev pub subst_papp : ℕ
subst_papp = 56

abbrev pub dshift_u : ℕ
dshift_u = 57

abbrev pub dshift_nat : ℕ
dshift_nat = 58

abbrev pub dshift_zero : ℕ
dshift_zero = 59

abbrev pub dshift_v : ℕ
dshift_v = 60

abbrev pub dshift_pi : ℕ
dshift_pi = 61

abbrev pub dshift_lam : ℕ
dshift_lam = 62

abbrev pub dshift_app : ℕ
dshift_app = 63

abbrev pub dshift_path : ℕ
dshift_path = 64

abbrev pub dshift_plam : ℕ
dshift_plam = 65

abbrev pub dshift_papp : ℕ
dshift_papp = 66

abbrev pub dsubst_u : ℕ
dsubst_u = 67

abbrev pub dsubst_nat : ℕ
dsubst_nat = 68

abbrev pub dsubst_zero : ℕ
dsubst_zero = 69

abbrev pub dsubst_v : ℕ
dsubst_v = 70

abbrev pub dsubst_pi : ℕ
dsubst_pi = 71

abbrev pub dsubst_lam : ℕ
dsubst_lam = 72

abbrev pub dsubst_app : ℕ
dsubst_app = 73

abbrev pub dsubst_path : ℕ
dsubst_path = 74

abbrev pub dsubst_plam : ℕ
dsubst_plam = 75

abbrev pub dsubst_papp : ℕ
dsubst_papp = 76

abbrev pub type_u : ℕ
type_u = 77

abbrev pub type_nat : ℕ
type_nat = 78

abbrev pub type_zero : ℕ
type_zero = 79

abbrev pub type_v : ℕ
type_v = 80

abbrev pub type_pi : ℕ
type_pi = 81

abbrev pub type_lam : ℕ
type_lam = 82

abbrev pub type_app : ℕ
type_app = 83

abbrev pub type_path : ℕ
type_path = 84

abbrev pub type_plam : ℕ
type_plam = 85

abbrev pub type_papp : ℕ
type_papp = 86

abbrev pub type_conv : ℕ
type_conv = 87

abbrev pub eq_refl : ℕ
eq_refl = 88

abbrev pub eq_sym : ℕ
eq_sym = 89

abbrev pub eq_trans : ℕ
eq_trans = 90

abbrev pub eq_beta : ℕ
eq_beta = 91

abbrev pub eq_pbeta : ℕ
eq_pbeta = 92

abbrev pub eq_p0 : ℕ
eq_p0 = 93

abbrev pub eq_p1 : ℕ
eq_p1 = 94

abbrev pub type_sigma : ℕ
type_sigma = 95

abbrev pub type_pair : ℕ
type_pair = 96

abbrev pub type_fst : ℕ
type_fst = 97

abbrev pub type_snd : ℕ
type_snd = 98

abbrev pub eq_fst_beta : ℕ
eq_fst_beta = 99

abbrev pub eq_snd_beta : ℕ
eq_snd_beta = 100

abbrev pub shift_sigma : ℕ
shift_sigma = 101

abbrev pub shift_pair : ℕ
shift_pair = 102

abbrev pub shift_fst : ℕ
shift_fst = 103

abbrev pub shift_snd : ℕ
shift_snd = 104

abbrev pub subst_sigma : ℕ
subst_sigma = 105

abbrev pub subst_pair : ℕ
subst_pair = 106

abbrev pub subst_fst : ℕ
subst_fst = 107

abbrev pub subst_snd : ℕ
subst_snd = 108

abbrev pub dshift_sigma : ℕ
dshift_sigma = 109

abbrev pub dshift_pair : ℕ
dshift_pair = 110

abbrev pub dshift_fst : ℕ
dshift_fst = 111

abbrev pub dshift_snd : ℕ
dshift_snd = 112

abbrev pub dsubst_sigma : ℕ
dsubst_sigma = 113

abbrev pub dsubst_pair : ℕ
dsubst_pair = 114

abbrev pub dsubst_fst : ℕ
dsubst_fst = 115

abbrev pub dsubst_snd : ℕ
dsubst_snd = 116

abbrev pub iend_0 : ℕ
iend_0 = 117

abbrev pub iend_1 : ℕ
iend_1 = 118

abbrev pub iend_neg : ℕ
iend_neg = 119

abbrev pub iend_meet : ℕ
iend_meet = 120

abbrev pub iend_join : ℕ
iend_join = 121

abbrev pub eq_p0_val : ℕ
eq_p0_val = 122

abbrev pub eq_p1_val : ℕ
eq_p1_val = 123

abbrev pub eq_app_cong : ℕ
eq_app_cong = 124

abbrev pub eq_papp_cong : ℕ
eq_papp_cong = 125

-- The judgments by number, as Judgment's `kind` has them.
abbrev ctx : ℕ
ctx = 0

abbrev dshiftctx : ℕ
dshiftctx = 1

abbrev lookup : ℕ
lookup = 2

abbrev lt : ℕ
lt = 3

abbrev le : ℕ
le = 4

abbrev max : ℕ
max = 5

abbrev interval : ℕ
interval = 6

abbrev ishift : ℕ
ishift = 7

abbrev isubst : ℕ
isubst = 8

abbrev shift : ℕ
shift = 9

abbrev subst : ℕ
subst = 10

abbrev dshift : ℕ
dshift = 11

abbrev dsubst : ℕ
dsubst = 12

abbrev has : ℕ
has = 13

abbrev eq : ℕ
eq = 14

abbrev iend : ℕ
iend = 15

-- Every rule with its name, as the listing prints it, and the kind of judgment that it concludes (proved in Concludes).
pub record Named : Type 0 where
  pub number : ℕ
  pub name : String
  pub kind : ℕ

infix 50 ◌named◌concludes◌
abbrev ◌named◌concludes◌ : ℕ → String → ℕ → Named
◌named◌concludes◌ n s k = record { number = n; name = s; kind = k }

abbrev pub rules : List Named
rules =
    (ctx_nil named "ctx.nil" concludes ctx) ∷
    (ctx_cons named "ctx.cons" concludes ctx) ∷
    (dshiftctx_nil named "dshiftctx.nil" concludes dshiftctx) ∷
    (dshiftctx_cons named "dshiftctx.cons" concludes dshiftctx) ∷
    (lookup_z named "lookup.z" concludes lookup) ∷
    (lookup_s named "lookup.s" concludes lookup) ∷
    (lt_z named "lt.z" concludes lt) ∷
    (lt_s named "lt.s" concludes lt) ∷
    (le_z named "le.z" concludes le) ∷
    (le_s named "le.s" concludes le) ∷
    (max_z named "max.z" concludes max) ∷
    (max_sz named "max.sz" concludes max) ∷
    (max_ss named "max.ss" concludes max) ∷
    (interval_0 named "interval.0" concludes interval) ∷
    (interval_1 named "interval.1" concludes interval) ∷
    (interval_dim named "interval.dim" concludes interval) ∷
    (interval_neg named "interval.neg" concludes interval) ∷
    (interval_meet named "interval.meet" concludes interval) ∷
    (interval_join named "interval.join" concludes interval) ∷
    (ishift_0 named "ishift.0" concludes ishift) ∷
    (ishift_1 named "ishift.1" concludes ishift) ∷
    (ishift_dim_lt named "ishift.dim.lt" concludes ishift) ∷
    (ishift_dim_ge named "ishift.dim.ge" concludes ishift) ∷
    (ishift_neg named "ishift.neg" concludes ishift) ∷
    (ishift_meet named "ishift.meet" concludes ishift) ∷
    (ishift_join named "ishift.join" concludes ishift) ∷
    (isubst_0 named "isubst.0" concludes isubst) ∷
    (isubst_1 named "isubst.1" concludes isubst) ∷
    (isubst_dim_hit named "isubst.dim.hit" concludes isubst) ∷
    (isubst_dim_lt named "isubst.dim.lt" concludes isubst) ∷
    (isubst_dim_gt named "isubst.dim.gt" concludes isubst) ∷
    (isubst_neg named "isubst.neg" concludes isubst) ∷
    (isubst_meet named "isubst.meet" concludes isubst) ∷
    (isubst_join named "isubst.join" concludes isubst) ∷
    (shift_u named "shift.u" concludes shift) ∷
    (shift_nat named "shift.nat" concludes shift) ∷
    (shift_zero named "shift.zero" concludes shift) ∷
    (shift_v_lt named "shift.v.lt" concludes shift) ∷
    (shift_v_ge named "shift.v.ge" concludes shift) ∷
    (shift_pi named "shift.pi" concludes shift) ∷
    (shift_lam named "shift.lam" concludes shift) ∷
    (shift_app named "shift.app" concludes shift) ∷
    (shift_path named "shift.path" concludes shift) ∷
    (shift_plam named "shift.plam" concludes shift) ∷
    (shift_papp named "shift.papp" concludes shift) ∷
    (subst_u named "subst.u" concludes subst) ∷
    (subst_nat named "subst.nat" concludes subst) ∷
    (subst_zero named "subst.zero" concludes subst) ∷
    (subst_v_hit named "subst.v.hit" concludes subst) ∷
    (subst_v_lt named "subst.v.lt" concludes subst) ∷
    (subst_v_gt named "subst.v.gt" concludes subst) ∷
    (subst_pi named "subst.pi" concludes subst) ∷
    (subst_lam named "subst.lam" concludes subst) ∷
    (subst_app named "subst.app" concludes subst) ∷
    (subst_path named "subst.path" concludes subst) ∷
    (subst_plam named "subst.plam" concludes subst) ∷
    (subst_papp named "subst.papp" concludes subst) ∷
    (dshift_u named "dshift.u" concludes dshift) ∷
    (dshift_nat named "dshift.nat" concludes dshift) ∷
    (dshift_zero named "dshift.zero" concludes dshift) ∷
    (dshift_v named "dshift.v" concludes dshift) ∷
    (dshift_pi named "dshift.pi" concludes dshift) ∷
    (dshift_lam named "dshift.lam" concludes dshift) ∷
    (dshift_app named "dshift.app" concludes dshift) ∷
    (dshift_path named "dshift.path" concludes dshift) ∷
    (dshift_plam named "dshift.plam" concludes dshift) ∷
    (dshift_papp named "dshift.papp" concludes dshift) ∷
    (dsubst_u named "dsubst.u" concludes dsubst) ∷
    (dsubst_nat named "dsubst.nat" concludes dsubst) ∷
    (dsubst_zero named "dsubst.zero" concludes dsubst) ∷
    (dsubst_v named "dsubst.v" concludes dsubst) ∷
    (dsubst_pi named "dsubst.pi" concludes dsubst) ∷
    (dsubst_lam named "dsubst.lam" concludes dsubst) ∷
    (dsubst_app named "dsubst.app" concludes dsubst) ∷
    (dsubst_path named "dsubst.path" concludes dsubst) ∷
    (dsubst_plam named "dsubst.plam" concludes dsubst) ∷
    (dsubst_papp named "dsubst.papp" concludes dsubst) ∷
    (type_u named "type.u" concludes has) ∷
    (type_nat named "type.nat" concludes has) ∷
    (type_zero named "type.zero" concludes has) ∷
    (type_v named "type.v" concludes has) ∷
    (type_pi named "type.pi" concludes has) ∷
    (type_lam named "type.lam" concludes has) ∷
    (type_app named "type.app" concludes has) ∷
    (type_path named "type.path" concludes has) ∷
    (type_plam named "type.plam" concludes has) ∷
    (type_papp named "type.papp" concludes has) ∷
    (type_conv named "type.conv" concludes has) ∷
    (eq_refl named "eq.refl" concludes eq) ∷
    (eq_sym named "eq.sym" concludes eq) ∷
    (eq_trans named "eq.trans" concludes eq) ∷
    (eq_beta named "eq.beta" concludes eq) ∷
    (eq_pbeta named "eq.pbeta" concludes eq) ∷
    (eq_p0 named "eq.p0" concludes eq) ∷
    (eq_p1 named "eq.p1" concludes eq) ∷
    (type_sigma named "type.sigma" concludes has) ∷
    (type_pair named "type.pair" concludes has) ∷
    (type_fst named "type.fst" concludes has) ∷
    (type_snd named "type.snd" concludes has) ∷
    (eq_fst_beta named "eq.fst-beta" concludes eq) ∷
    (eq_snd_beta named "eq.snd-beta" concludes eq) ∷
    (shift_sigma named "shift.sigma" concludes shift) ∷
    (shift_pair named "shift.pair" concludes shift) ∷
    (shift_fst named "shift.fst" concludes shift) ∷
    (shift_snd named "shift.snd" concludes shift) ∷
    (subst_sigma named "subst.sigma" concludes subst) ∷
    (subst_pair named "subst.pair" concludes subst) ∷
    (subst_fst named "subst.fst" concludes subst) ∷
    (subst_snd named "subst.snd" concludes subst) ∷
    (dshift_sigma named "dshift.sigma" concludes dshift) ∷
    (dshift_pair named "dshift.pair" concludes dshift) ∷
    (dshift_fst named "dshift.fst" concludes dshift) ∷
    (dshift_snd named "dshift.snd" concludes dshift) ∷
    (dsubst_sigma named "dsubst.sigma" concludes dsubst) ∷
    (dsubst_pair named "dsubst.pair" concludes dsubst) ∷
    (dsubst_fst named "dsubst.fst" concludes dsubst) ∷
    (dsubst_snd named "dsubst.snd" concludes dsubst) ∷
    (iend_0 named "iend.0" concludes iend) ∷
    (iend_1 named "iend.1" concludes iend) ∷
    (iend_neg named "iend.neg" concludes iend) ∷
    (iend_meet named "iend.meet" concludes iend) ∷
    (iend_join named "iend.join" concludes iend) ∷
    (eq_p0_val named "eq.p0-val" concludes eq) ∷
    (eq_p1_val named "eq.p1-val" concludes eq) ∷
    (eq_app_cong named "eq.app-cong" concludes eq) ∷
    (eq_papp_cong named "eq.papp-cong" concludes eq) ∷
    []

-- How many there are.
abbrev pub rule_count : ℕ
rule_count = 126

-- A number that is no rule has an empty name, and concludes a kind that no judgment has.
abbrev pub no_rule : Named
no_rule = rule_count named "" concludes 255

unfoldable pub kind_of : ℕ → ℕ
kind_of n = (get_or rules n no_rule).kind

-- The table has the rules in the order of their numbers, each once.
abbrev numbers : List Named → List ℕ
numbers [] = []
numbers (r ∷ rs) = r.number ∷ numbers rs

abbrev numbered : ℕ → ℕ → List ℕ
numbered n ℕ.zero = []
numbered n (ℕ.suc k) = n ∷ numbered (suc n) k

pub in_order : numbers rules ≡ numbered 0 rule_count
in_order = refl
