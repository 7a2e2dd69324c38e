-- Judgments and nodes by number: a judgment's name and the sorts of its arguments, a node's name and its parts. Assumes nothing.
use Rattle.std.specs.Prelude.{ℕ, List, [], ◌∷◌, ◌++◌, Option, get_or, slice_get, replicate}
use Prim.Native.String.{String}
use Rattle.rules.specs.declared.Sort.{Sort}
use Rattle.rules.specs.declared.Sort.TheVariants.{Number as number, Term as term, Interval as interval, Context as context}
use Rattle.rules.specs.declared.Part.{Part}

-- A judgment: its name and its arguments' sorts.
pub record Form : Type 0 where
  pub name : String
  pub sorts : List Sort

infix 30 ◌takes◌
abbrev ◌takes◌ : String → List Sort → Form
◌takes◌ s l = record { name = s; sorts = l }

-- The judgments by their kind.
abbrev pub judgments : List Form
judgments =
    -- written by tools/written.py: judgments
    ("ctx" takes number ∷ context ∷ []) ∷
    ("dshiftctx" takes context ∷ number ∷ context ∷ []) ∷
    ("lookup" takes context ∷ number ∷ term ∷ []) ∷
    ("lt" takes number ∷ number ∷ []) ∷
    ("le" takes number ∷ number ∷ []) ∷
    ("max" takes number ∷ number ∷ number ∷ []) ∷
    ("interval" takes number ∷ interval ∷ []) ∷
    ("ishift" takes interval ∷ number ∷ interval ∷ []) ∷
    ("isubst" takes interval ∷ number ∷ interval ∷ interval ∷ []) ∷
    ("shift" takes term ∷ number ∷ term ∷ []) ∷
    ("subst" takes term ∷ number ∷ term ∷ term ∷ []) ∷
    ("dshift" takes term ∷ number ∷ term ∷ []) ∷
    ("dsubst" takes term ∷ number ∷ interval ∷ term ∷ []) ∷
    ("has" takes number ∷ context ∷ term ∷ term ∷ []) ∷
    ("eq" takes number ∷ context ∷ term ∷ term ∷ term ∷ []) ∷
    ("iend" takes interval ∷ interval ∷ []) ∷
    -- end of judgments
    []

abbrev pub no_judgment : Form
no_judgment = "" takes []

-- The sorts of a judgment's arguments, and that of one, counted from 0.
unfoldable pub sorts_of : ℕ → List Sort
sorts_of k = (get_or judgments k no_judgment).sorts

unfoldable pub sort_of : ℕ → ℕ → Option Sort
sort_of k n = slice_get (sorts_of k) n

-- A part of a node that a quote shows: its sort, and the word of the cell where it stands.
infix 60 ◌in_word◌
abbrev ◌in_word◌ : Sort → ℕ → Part
◌in_word◌ s w = record { sort = s; word = w }

pub record Node : Type 0 where
  pub name : String
  pub parts : List Part

infix 30 ◌shows◌
abbrev ◌shows◌ : String → List Part → Node
◌shows◌ s l = record { name = s; parts = l }

abbrev pub no_node : Node
no_node = "" shows []

-- The nodes by their kind: terms from 1, intervals from 16, contexts from 32. The annotations of lam, plam and pair, in word 1, are
-- not shown.
abbrev pub nodes : List Node
nodes =
    -- written by tools/written.py: nodes
    no_node ∷
    ("u" shows (number in_word 1) ∷ []) ∷
    ("v" shows (number in_word 1) ∷ []) ∷
    ("nat" shows []) ∷
    ("zero" shows []) ∷
    ("pi" shows (term in_word 1) ∷ (term in_word 2) ∷ []) ∷
    ("lam" shows (term in_word 2) ∷ []) ∷
    ("app" shows (term in_word 1) ∷ (term in_word 2) ∷ []) ∷
    ("path" shows (term in_word 1) ∷ (term in_word 2) ∷ (term in_word 3) ∷ []) ∷
    ("plam" shows (term in_word 2) ∷ []) ∷
    ("papp" shows (term in_word 1) ∷ (interval in_word 2) ∷ []) ∷
    ("sigma" shows (term in_word 1) ∷ (term in_word 2) ∷ []) ∷
    ("pair" shows (term in_word 2) ∷ (term in_word 3) ∷ []) ∷
    ("fst" shows (term in_word 1) ∷ []) ∷
    ("snd" shows (term in_word 1) ∷ []) ∷
    no_node ∷
    ("i0" shows []) ∷
    ("i1" shows []) ∷
    ("dim" shows (number in_word 1) ∷ []) ∷
    ("neg" shows (interval in_word 1) ∷ []) ∷
    ("meet" shows (interval in_word 1) ∷ (interval in_word 2) ∷ []) ∷
    ("join" shows (interval in_word 1) ∷ (interval in_word 2) ∷ []) ∷
    replicate 10 no_node ++
    ("nil" shows []) ∷
    ("cons" shows (term in_word 1) ∷ (context in_word 2) ∷ []) ∷
    -- end of nodes
    []

-- The parts of a node that are shown, and the one at a place, counted from 0.
unfoldable pub parts_of : ℕ → List Part
parts_of k = (get_or nodes k no_node).parts

unfoldable pub part_of : ℕ → ℕ → Option Part
part_of k n = slice_get (parts_of k) n

-- How many judgments and nodes there are, kinds that are no node among them.
-- written by tools/written.py: counts
abbrev pub judgment_count : ℕ
judgment_count = 16

abbrev pub node_count : ℕ
node_count = 34

-- end of counts
