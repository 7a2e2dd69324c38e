-- Laws of the definitions, by which the functions' proofs go. Assumes nothing.
use Rattle.std.specs.Prelude.{ℕ, ◌≡◌, ◌⊎◌, List, ◌++◌, Option, Some, None}
use Rattle.std.proofs.Common.{inl, inr, ap}
use Rattle.rules.specs.Names.{bytes, node_name}
use Rattle.rules.specs.Kinds.{part_of}
use Rattle.rules.specs.declared.Part.{Part}
use Rattle.rules.specs.declared.Sort.{Sort}
use Rattle.rules.specs.declared.Sort.TheVariants.{Term, Interval, Context}
use Rattle.writer.specs.Text.{Text}
use Rattle.writer.specs.Window.{put, written}
use Rattle.writer.specs.declared.Output.{Output}
use Rattle.writer.proofs.Laws.{written_append, written_cons, written_nil}
use Rattle.quotes.specs.Quotes.{by_sort, part_as, node_as}

-- Terms, intervals and contexts are quoted.
pub quoted : (quote : ℕ → Text) (sort : Sort) (x : ℕ) → (sort ≡ Term) ⊎ ((sort ≡ Interval) ⊎ (sort ≡ Context)) → by_sort quote sort x ≡ quote x
unfolding by_sort
quoted quote sort x (inl e) = rw e
quoted quote sort x (inr (inl e)) = rw e
quoted quote sort x (inr (inr e)) = rw e

-- A node, by whether it has parts.
pub node_atom : (q : ℕ → Text) (C : List ℕ) (i kind : ℕ) → part_of kind 0 ≡ None → node_as q C i kind ≡ node_name kind
unfolding node_as
node_atom q C i kind h = rw (h, node_as)

pub node_parts : (q : ℕ → Text) (C : List ℕ) (i kind : ℕ) (first : Part) → part_of kind 0 ≡ Some first → node_as q C i kind ≡ bytes "(" ++ node_name kind ++ part_as q C i kind 0 ++ part_as q C i kind 1 ++ part_as q C i kind 2 ++ bytes ")"
unfolding node_as
node_parts q C i kind first h = ap (λ (p : Option Part). elim p as (λ _. Text) [ None ↦ node_name kind | Some _ ↦ bytes "(" ++ node_name kind ++ part_as q C i kind 0 ++ part_as q C i kind 1 ++ part_as q C i kind 2 ++ bytes ")" ]) h

pub written_node : (name a b c : Text) (o : Output) → written (bytes "(" ++ name ++ a ++ b ++ c ++ bytes ")") o ≡ put 41 (written c (written b (written a (written name (put 40 o)))))
written_node name a b c o = rw (written_append, written_append, written_append, written_append, written_append) (rw (written_cons, written_nil) (rw (written_cons, written_nil)))
