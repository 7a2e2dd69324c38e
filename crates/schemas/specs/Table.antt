-- The rules as texts, in the notation of Parse: premises, then the conclusion. A rule with several lists of premises has several lines.
-- The table need not be believed: Follows proves that it says what the rules of `walk` say, both ways.
use Rattle.std.specs.Prelude.{ℕ, List, [], ◌∷◌, ◌++◌}
use Prim.Native.String.{String}
use Rattle.rules.specs.Names.{bytes}
use Rattle.walk.specs.Rule as R
use Rattle.schemas.specs.Tree.{Text, Pattern}
use Rattle.schemas.specs.Parse.{patterns}

pub record Line : Type 0 where
  pub rule : ℕ
  pub premises : String
  pub conclusion : String

infix 70 ◌from◌to◌
abbrev ◌from◌to◌ : ℕ → String → String → Line
n from ps to c = record { rule = n; premises = ps; conclusion = c }

-- The bytes of a line: the conclusion goes first. Its pattern.
abbrev pub text : Line → Text
text l = bytes l.conclusion ++ bytes l.premises

abbrev pub pattern : Line → Pattern
pattern l = patterns (text l)

abbrev pub lines : List Line
lines =
    -- written by tools/written.py: rules
    R.ctx_nil from "" to "(ctx D nil)" ∷
    R.ctx_cons from "(ctx D G) (has D G A (u L))" to "(ctx D (cons A G))" ∷
    R.dshiftctx_nil from "" to "(dshiftctx nil 0 nil)" ∷
    R.dshiftctx_cons from "(dshiftctx G 0 H) (dshift A 0 P)" to "(dshiftctx (cons A G) 0 (cons P H))" ∷
    R.lookup_z from "(shift A 0 B)" to "(lookup (cons A G) 0 B)" ∷
    R.lookup_s from "(lookup G N A) (shift A 0 B)" to "(lookup (cons C G) N+ B)" ∷
    R.lt_z from "" to "(lt 0 N+)" ∷
    R.lt_s from "(lt M N)" to "(lt M+ N+)" ∷
    R.le_z from "" to "(le 0 N)" ∷
    R.le_s from "(le M N)" to "(le M+ N+)" ∷
    R.max_z from "" to "(max 0 N N)" ∷
    R.max_sz from "" to "(max M+ 0 M+)" ∷
    R.max_ss from "(max M N K)" to "(max M+ N+ K+)" ∷
    R.interval_0 from "" to "(interval D i0)" ∷
    R.interval_1 from "" to "(interval D i1)" ∷
    R.interval_dim from "(lt N D)" to "(interval D (dim N))" ∷
    R.interval_neg from "(interval D R)" to "(interval D (neg R))" ∷
    R.interval_meet from "(interval D R) (interval D W)" to "(interval D (meet R W))" ∷
    R.interval_join from "(interval D R) (interval D W)" to "(interval D (join R W))" ∷
    R.ishift_0 from "" to "(ishift i0 K i0)" ∷
    R.ishift_1 from "" to "(ishift i1 K i1)" ∷
    R.ishift_dim_lt from "(lt N K)" to "(ishift (dim N) K (dim N))" ∷
    R.ishift_dim_ge from "(le K N)" to "(ishift (dim N) K (dim N+))" ∷
    R.ishift_neg from "(ishift R K U)" to "(ishift (neg R) K (neg U))" ∷
    R.ishift_meet from "(ishift R K U) (ishift W K Z)" to "(ishift (meet R W) K (meet U Z))" ∷
    R.ishift_join from "(ishift R K U) (ishift W K Z)" to "(ishift (join R W) K (join U Z))" ∷
    R.isubst_0 from "" to "(isubst i0 K S i0)" ∷
    R.isubst_1 from "" to "(isubst i1 K S i1)" ∷
    R.isubst_dim_hit from "" to "(isubst (dim K) K S S)" ∷
    R.isubst_dim_lt from "(lt N K)" to "(isubst (dim N) K S (dim N))" ∷
    R.isubst_dim_gt from "(lt K N+)" to "(isubst (dim N+) K S (dim N))" ∷
    R.isubst_neg from "(isubst R K S U)" to "(isubst (neg R) K S (neg U))" ∷
    R.isubst_meet from "(isubst R K S U) (isubst W K S Z)" to "(isubst (meet R W) K S (meet U Z))" ∷
    R.isubst_join from "(isubst R K S U) (isubst W K S Z)" to "(isubst (join R W) K S (join U Z))" ∷
    R.shift_u from "" to "(shift (u L) K (u L))" ∷
    R.shift_nat from "" to "(shift nat K nat)" ∷
    R.shift_zero from "" to "(shift zero K zero)" ∷
    R.shift_v_lt from "(lt N K)" to "(shift (v N) K (v N))" ∷
    R.shift_v_ge from "(le K N)" to "(shift (v N) K (v N+))" ∷
    R.shift_pi from "(shift A K P) (shift B K+ Q)" to "(shift (pi A B) K (pi P Q))" ∷
    R.shift_lam from "(shift B K+ Q)" to "(shift (lam B) K (lam Q))" ∷
    R.shift_app from "(shift F K P) (shift A K B)" to "(shift (app F A) K (app P B))" ∷
    R.shift_path from "(shift A K P) (shift B K Q) (shift C K R)" to "(shift (path A B C) K (path P Q R))" ∷
    R.shift_plam from "(shift B K Q)" to "(shift (plam B) K (plam Q))" ∷
    R.shift_papp from "(shift P K Q)" to "(shift (papp P R) K (papp Q R))" ∷
    R.subst_u from "" to "(subst (u L) K X (u L))" ∷
    R.subst_nat from "" to "(subst nat K X nat)" ∷
    R.subst_zero from "" to "(subst zero K X zero)" ∷
    R.subst_v_hit from "" to "(subst (v K) K X X)" ∷
    R.subst_v_lt from "(lt N K)" to "(subst (v N) K X (v N))" ∷
    R.subst_v_gt from "(lt K N+)" to "(subst (v N+) K X (v N))" ∷
    R.subst_pi from "(subst A K X P) (shift X 0 Y) (subst B K+ Y Q)" to "(subst (pi A B) K X (pi P Q))" ∷
    R.subst_lam from "(shift X 0 Y) (subst B K+ Y Q)" to "(subst (lam B) K X (lam Q))" ∷
    R.subst_app from "(subst F K X P) (subst A K X B)" to "(subst (app F A) K X (app P B))" ∷
    R.subst_path from "(dshift X 0 Y) (subst A K Y P) (subst B K X Q) (subst C K X R)" to "(subst (path A B C) K X (path P Q R))" ∷
    R.subst_plam from "(dshift X 0 Y) (subst B K Y Q)" to "(subst (plam B) K X (plam Q))" ∷
    R.subst_papp from "(subst P K X Q)" to "(subst (papp P R) K X (papp Q R))" ∷
    R.dshift_u from "" to "(dshift (u L) K (u L))" ∷
    R.dshift_nat from "" to "(dshift nat K nat)" ∷
    R.dshift_zero from "" to "(dshift zero K zero)" ∷
    R.dshift_v from "" to "(dshift (v N) K (v N))" ∷
    R.dshift_pi from "(dshift A K P) (dshift B K Q)" to "(dshift (pi A B) K (pi P Q))" ∷
    R.dshift_lam from "(dshift B K Q)" to "(dshift (lam B) K (lam Q))" ∷
    R.dshift_app from "(dshift F K P) (dshift A K B)" to "(dshift (app F A) K (app P B))" ∷
    R.dshift_path from "(dshift A K+ P) (dshift B K Q) (dshift C K R)" to "(dshift (path A B C) K (path P Q R))" ∷
    R.dshift_plam from "(dshift B K+ Q)" to "(dshift (plam B) K (plam Q))" ∷
    R.dshift_papp from "(dshift P K Q) (ishift R K U)" to "(dshift (papp P R) K (papp Q U))" ∷
    R.dsubst_u from "" to "(dsubst (u L) K S (u L))" ∷
    R.dsubst_nat from "" to "(dsubst nat K S nat)" ∷
    R.dsubst_zero from "" to "(dsubst zero K S zero)" ∷
    R.dsubst_v from "" to "(dsubst (v N) K S (v N))" ∷
    R.dsubst_pi from "(dsubst A K S P) (dsubst B K S Q)" to "(dsubst (pi A B) K S (pi P Q))" ∷
    R.dsubst_lam from "(dsubst B K S Q)" to "(dsubst (lam B) K S (lam Q))" ∷
    R.dsubst_app from "(dsubst F K S P) (dsubst A K S B)" to "(dsubst (app F A) K S (app P B))" ∷
    R.dsubst_path from "(ishift S 0 T) (dsubst A K+ T P) (dsubst B K S Q) (dsubst C K S R)" to "(dsubst (path A B C) K S (path P Q R))" ∷
    R.dsubst_plam from "(ishift S 0 T) (dsubst B K+ T Q)" to "(dsubst (plam B) K S (plam Q))" ∷
    R.dsubst_papp from "(dsubst P K S Q) (isubst R K S U)" to "(dsubst (papp P R) K S (papp Q U))" ∷
    R.type_u from "(ctx D G)" to "(has D G (u L) (u L+))" ∷
    R.type_nat from "(ctx D G)" to "(has D G nat (u 0))" ∷
    R.type_zero from "(ctx D G)" to "(has D G zero nat)" ∷
    R.type_v from "(ctx D G) (lookup G N A)" to "(has D G (v N) A)" ∷
    R.type_pi from "(has D G A (u I)) (has D (cons A G) B (u J)) (max I J K)" to "(has D G (pi A B) (u K))" ∷
    R.type_lam from "(has D G A (u I)) (has D (cons A G) B C) (has D (cons A G) C (u J))" to "(has D G (lam B) (pi A C))" ∷
    R.type_app from "(has D G F (pi C B)) (has D G A C) (subst B 0 A Q)" to "(has D G (app F A) Q)" ∷
    R.type_path from "(ctx D G) (dshiftctx G 0 H) (has D+ H A (u L)) (dsubst A 0 i0 P) (dsubst A 0 i1 Q) (has D G B P) (has D G C Q)" to "(has D G (path A B C) (u L))" ∷
    R.type_plam from "(ctx D G) (dshiftctx G 0 H) (has D+ H A (u L)) (has D+ H T A) (dsubst A 0 i0 P) (dsubst A 0 i1 Q) (dsubst T 0 i0 B) (dsubst T 0 i1 C) (has D G B P) (has D G C Q)" to "(has D G (plam T) (path A B C))" ∷
    R.type_papp from "(has D G P (path A E C)) (interval D R) (dsubst A 0 R B) (has D G B (u L))" to "(has D G (papp P R) B)" ∷
    R.type_conv from "(has D G T A) (eq D G A B (u L)) (has D G B (u L))" to "(has D G T B)" ∷
    R.eq_refl from "(has D G T A)" to "(eq D G T T A)" ∷
    R.eq_sym from "(eq D G A B C)" to "(eq D G B A C)" ∷
    R.eq_trans from "(eq D G A B E) (eq D G B C E)" to "(eq D G A C E)" ∷
    R.eq_beta from "(has D G E (u I)) (has D (cons E G) B F) (has D (cons E G) F (u J)) (has D G A E) (subst B 0 A Q) (subst F 0 A C)" to "(eq D G (app (lam B) A) Q C)" ∷
    R.eq_pbeta from "(has D G (plam T) (path A E C)) (interval D R) (dsubst A 0 R B) (dsubst T 0 R U) (has D G U B)" to "(eq D G (papp (plam T) R) U B)" ∷
    R.eq_p0 from "(has D G P (path A B C)) (dsubst A 0 i0 E) (has D G B E)" to "(eq D G (papp P i0) B E)" ∷
    R.eq_p1 from "(has D G P (path A E C)) (dsubst A 0 i1 B) (has D G C B)" to "(eq D G (papp P i1) C B)" ∷
    R.type_sigma from "(has D G A (u I)) (has D (cons A G) B (u J)) (max I J K)" to "(has D G (sigma A B) (u K))" ∷
    R.type_pair from "(has D G A (u I)) (has D (cons A G) B (u J)) (has D G P A) (subst B 0 P C) (has D G C (u J)) (has D G Q C)" to "(has D G (pair P Q) (sigma A B))" ∷
    R.type_fst from "(has D G P (sigma A B)) (has D G A (u I))" to "(has D G (fst P) A)" ∷
    R.type_snd from "(has D G P (sigma A B)) (subst B 0 (fst P) C) (has D G C (u J))" to "(has D G (snd P) C)" ∷
    R.eq_fst_beta from "(has D G (pair P Q) (sigma A B)) (has D G P A)" to "(eq D G (fst (pair P Q)) P A)" ∷
    R.eq_snd_beta from "(has D G (pair P Q) (sigma A B)) (subst B 0 (fst (pair P Q)) C) (has D G Q C)" to "(eq D G (snd (pair P Q)) Q C)" ∷
    R.shift_sigma from "(shift A K P) (shift B K+ Q)" to "(shift (sigma A B) K (sigma P Q))" ∷
    R.shift_pair from "(shift A K P) (shift B K Q)" to "(shift (pair A B) K (pair P Q))" ∷
    R.shift_fst from "(shift P K Q)" to "(shift (fst P) K (fst Q))" ∷
    R.shift_snd from "(shift P K Q)" to "(shift (snd P) K (snd Q))" ∷
    R.subst_sigma from "(subst A K X P) (shift X 0 Y) (subst B K+ Y Q)" to "(subst (sigma A B) K X (sigma P Q))" ∷
    R.subst_pair from "(subst A K X P) (subst B K X Q)" to "(subst (pair A B) K X (pair P Q))" ∷
    R.subst_fst from "(subst P K X Q)" to "(subst (fst P) K X (fst Q))" ∷
    R.subst_snd from "(subst P K X Q)" to "(subst (snd P) K X (snd Q))" ∷
    R.dshift_sigma from "(dshift A K P) (dshift B K Q)" to "(dshift (sigma A B) K (sigma P Q))" ∷
    R.dshift_pair from "(dshift A K P) (dshift B K Q)" to "(dshift (pair A B) K (pair P Q))" ∷
    R.dshift_fst from "(dshift P K Q)" to "(dshift (fst P) K (fst Q))" ∷
    R.dshift_snd from "(dshift P K Q)" to "(dshift (snd P) K (snd Q))" ∷
    R.dsubst_sigma from "(dsubst A K S P) (dsubst B K S Q)" to "(dsubst (sigma A B) K S (sigma P Q))" ∷
    R.dsubst_pair from "(dsubst A K S P) (dsubst B K S Q)" to "(dsubst (pair A B) K S (pair P Q))" ∷
    R.dsubst_fst from "(dsubst P K S Q)" to "(dsubst (fst P) K S (fst Q))" ∷
    R.dsubst_snd from "(dsubst P K S Q)" to "(dsubst (snd P) K S (snd Q))" ∷
    R.iend_0 from "" to "(iend i0 i0)" ∷
    R.iend_1 from "" to "(iend i1 i1)" ∷
    R.iend_neg from "(iend R i0)" to "(iend (neg R) i1)" ∷
    R.iend_neg from "(iend R i1)" to "(iend (neg R) i0)" ∷
    R.iend_meet from "(iend R i0)" to "(iend (meet R W) i0)" ∷
    R.iend_meet from "(iend W i0)" to "(iend (meet R W) i0)" ∷
    R.iend_meet from "(iend R i1) (iend W i1)" to "(iend (meet R W) i1)" ∷
    R.iend_join from "(iend R i1)" to "(iend (join R W) i1)" ∷
    R.iend_join from "(iend W i1)" to "(iend (join R W) i1)" ∷
    R.iend_join from "(iend R i0) (iend W i0)" to "(iend (join R W) i0)" ∷
    R.eq_p0_val from "(iend R i0) (has D G P (path A B C)) (interval D R) (dsubst A 0 R E) (has D G B E)" to "(eq D G (papp P R) B E)" ∷
    R.eq_p1_val from "(iend R i1) (has D G P (path A E C)) (interval D R) (dsubst A 0 R B) (has D G C B)" to "(eq D G (papp P R) C B)" ∷
    R.eq_app_cong from "(eq D G F H (pi A B)) (has D G X A) (subst B 0 X C) (has D G (app F X) C) (has D G (app H X) C)" to "(eq D G (app F X) (app H X) C)" ∷
    R.eq_papp_cong from "(eq D G P Q (path A E F)) (interval D R) (dsubst A 0 R B) (has D G (papp P R) B) (has D G (papp Q R) B)" to "(eq D G (papp P R) (papp Q R) B)" ∷
    -- end of rules
    []
