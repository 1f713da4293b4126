-- The start node of a stored sheet: the nodes that the writers are given, and what the definition makes of them.
use Prim.Native.Nat.{ℕ, zero, suc, ◌+◌, ◌-◌, ◌≤◌, ◌<◌}
use native.Mathlib.Omega.{arith}
use mathlib.Core.Path.{◌≡◌, refl, sym, subst, subst₂, ◌∙◌}
use mathlib.Core.Bool.{Bool, true, false, cond}
use mathlib.Core.List.{List, [], ◌∷◌}
use lib.ListN.{length, take}
use lib.Dec.{ltb}
use borrow.Author.Tests.{ltb-true, ltb-false, eq-eqb, ne_eqb}
use Rattle.spec.specs.Bytes.{Bytes}
use Rattle.spec.specs.Fields.{fields}
use Rattle.spec.specs.Tree.{Forest, nothing, text, comment, element, tree_of, size, attrs_of, kids_of, height, Found, node_at}
use Rattle.spec.specs.Questions.{SkipList}
use Rattle.spec.specs.Out.{Out, keep, and_then}
use Rattle.spec.specs.Call.{tags_to_skip, written}
use Rattle.spec.specs.Md.{serialize_md}
use Rattle.spec.specs.Md.Ctx.{new, set_node}
use Rattle.spec.specs.Md.TextUtils.{trim_space}
use Rattle.spec.specs.Md.MDSerializer.{Ancestors, write_kids, write}
use Rattle.spec.specs.Md.Serializer.{write_at, write_nodes, serializer, levels, write_found, write_fragment, serialize}
use Rattle.spec.specs.declared.ctx.FormatOpts.{FormatOpts}
use Rattle.tree.specs.Memory.{end_at, parent_at}
use Rattle.tree.specs.Represents.{Rep, Around}
use Rattle.tree.proofs.Ancestry.{FoundAt, around_in, start_at_lem}
use Rattle.tree.proofs.Ranges.{rep_size}
use Rattle.text.specs.Writes.{Written, Writes}
use Rattle.text.specs.Writes.{Wrote, no_room}
use Rattle.std.specs.Prelude.{Ok}
use Rattle.text.proofs.Writing.{yes, no, done, reaches, alike}
use Rattle.nodes.specs.Stands.{Placeds}
use Rattle.serializer.specs.Writers.{WritesForest}
use Rattle.md.specs.Started.{Started}
use Rattle.serializer.proofs.Answers.{both-done, both-full}

-- the nodes from number `from` up to `to`, of which the step makes the whole
pub record StartAt (sh ns : Bytes) (from to : ℕ) (step : Ancestors → Forest → Out) (whole : Out) : Type 0 where
  pub at : Placeds sh ns from to
  pub is : whole ≡ step at.anc at.forest

-- a node that is found is one
found_some : (k : ℕ) (anc : Ancestors) (f : Forest) → k < size f → 0 < size (node_at k anc f).node
unfolding node_at size
found_some k anc nothing l = absurd (omega arith)
found_some zero anc (text s rest) l = omega arith
found_some (suc k) anc (text s rest) l = found_some k anc rest (omega arith)
found_some zero anc (comment s rest) l = omega arith
found_some (suc k) anc (comment s rest) l = found_some k anc rest (omega arith)
found_some zero anc (element name attrs kids rest) l = omega arith
found_some (suc k) anc (element name attrs kids rest) l =
    go (ltb k (size kids)) refl (found_some k (attrs ∷ anc) kids) (found_some (k - size kids) anc rest)
  where
    go : (b : Bool) → ltb k (size kids) ≡ b → (k < size kids → 0 < size (node_at k (attrs ∷ anc) kids).node) → (k - size kids < size rest → 0 < size (node_at (k - size kids) anc rest).node)
        → 0 < size (cond b (node_at k (attrs ∷ anc) kids) (node_at (k - size kids) anc rest)).node
    go true e p q = p (ltb-true k (size kids) e)
    go false e p q = q (omega (arith, ltb-false k (size kids) e))

module _ {sh ns : Bytes} {start : ℕ} (s : Started sh ns start) where
  -- the definition's node
  abbrev found : Found
  found = node_at (start - 1) [] (tree_of (fields sh))

  found_at : 0 < start → FoundAt sh ns start (height (tree_of (fields sh))) found
  found_at l = start_at_lem sh ns _ start s.holds l s.node

  found_one : 0 < start → 0 < size found.node
  found_one l = found_some (start - 1) [] (tree_of (fields sh)) (omega (arith, s.node, rep_size sh ns 0 1 _ (tree_of (fields sh)) s.holds.tree))

-- the children of a node, written without it
in_node : (skips : List Bytes) (sh ns : Bytes) (j d : ℕ) (anc : Ancestors) (node : Forest) → 0 < j → d ≡ end_at ns j → 0 < size node
    → Rep sh ns (parent_at ns j) j (end_at ns j) node → Around sh ns (parent_at ns j) anc
    → StartAt sh ns (j + 1) d (λ anc f. and_then (write_at skips 101 anc new f []) trim_space) (write_kids (serializer skips 101) anc new node [])
unfolding Rep Around size write_kids serializer attrs_of kids_of write_at write_nodes
in_node skips sh ns j d anc nothing l q o h a = absurd (omega arith)
in_node skips sh ns j d anc (text s rest) l q o h a =
    record { at = record { parent = 0; forest = nothing; anc = []; positive = omega arith; rep = omega (arith, h.2); around = refl }; is = refl }
in_node skips sh ns j d anc (comment s rest) l q o h a =
    record { at = record { parent = 0; forest = nothing; anc = []; positive = omega arith; rep = omega (arith, h.2); around = refl }; is = refl }
in_node skips sh ns j d anc (element name attrs kids rest) l q o h a =
    record {
      at = record {
        parent = j;
        forest = kids;
        anc = attrs ∷ anc;
        positive = omega arith;
        rep = subst (λ (e : ℕ). Rep sh ns j (j + 1) e kids) (sym q) h.4;
        around = around_in sh ns j attrs anc l h.0 h.1.head h.2 a;
      };
      is = refl;
    }

-- the start node is left out
pub without : (skips : SkipList) (sh ns : Bytes) (start d : ℕ) → Started sh ns start → d ≡ end_at ns start
    → StartAt sh ns (start + 1) d (λ anc f. and_then (write_at (tags_to_skip skips) 101 anc new f []) trim_space) (written sh skips start false)
unfolding written serialize_md serialize levels write_fragment write_found write serializer Around
without skips sh ns zero d s q =
    record {
      at = record {
        parent = 0;
        forest = tree_of (fields sh);
        anc = [];
        positive = omega arith;
        rep = subst (λ (e : ℕ). Rep sh ns 0 1 e (tree_of (fields sh))) (sym (q ∙ s.holds.root_end)) s.holds.tree;
        around = refl;
      };
      is = refl;
    }
without skips sh ns (suc k) d s q =
    let l : 0 < suc k = omega arith in
    let p = in_node (tags_to_skip skips) sh ns (suc k) d (found s).ancestors (found s).node l q (found_one s l) (found_at s l).rep (found_at s l).around in
    record { at = p.at; is = no _ _ (ne_eqb (suc k) 0 (λ e. omega arith)) ∙ p.is }

-- the start node with itself
pub with_node : (skips : SkipList) (sh ns : Bytes) (start d : ℕ) → Started sh ns start → 0 < start → d ≡ end_at ns start
    → StartAt sh ns start d (λ anc f. write_at (tags_to_skip skips) 101 anc (set_node true new) f []) (written sh skips start true)
unfolding written serialize_md serialize levels write_found write serializer
with_node skips sh ns start d s l q =
    record {
      at = record {
        parent = parent_at ns start;
        forest = (found s).node;
        anc = (found s).ancestors;
        positive = l;
        rep = subst (λ (e : ℕ). Rep sh ns (parent_at ns start) start e (found s).node) (sym q) (found_at s l).rep;
        around = (found_at s l).around;
      };
      is = no _ _ (ne_eqb start 0 (λ e. omega arith));
    }

-- the fragment with itself is the empty text
pub fragment : (skips : SkipList) (sh : Bytes) (start : ℕ) → start ≡ 0 → written sh skips start true ≡ keep []
unfolding written serialize_md serialize write_fragment
fragment skips sh start e = yes _ _ (eq-eqb start 0 e)

-- ---- what `write` gives there

module _ (skips : SkipList) (sh ns : Bytes) (start d : ℕ) (s : Started sh ns start) (q : d ≡ end_at ns start) (memory : Bytes) {opts : FormatOpts} (e : opts ≡ new) {mid : Bytes} {r : Wrote}
    (w : WritesForest sh ns (start + 1) d (λ anc f. write_at (tags_to_skip skips) 101 anc opts f) (take 0 memory) (length memory) mid r) where
  p : StartAt sh ns (start + 1) d (λ anc f. and_then (write_at (tags_to_skip skips) 101 anc new f []) trim_space) (written sh skips start false)
  p = without skips sh ns start d s q

  inside_wrote : Writes (length memory) mid r (write_at (tags_to_skip skips) 101 p.at.anc new p.at.forest [])
  inside_wrote =
      subst (λ (o : FormatOpts). Writes (length memory) mid r (write_at (tags_to_skip skips) 101 p.at.anc o p.at.forest [])) e
      (w.for p.at.parent p.at.forest p.at.anc p.at.rep p.at.around)

  pub inside_reaches : {n : ℕ} → r ≡ Ok n → n ≤ length mid
  inside_reaches z = reaches (done z inside_wrote)

  pub inside_done : {n m : ℕ} {after : Bytes} → r ≡ Ok n → Written (length mid) after m (trim_space (take n mid)) → Writes (length memory) after (Ok m) (written sh skips start false)
  inside_done z x =
      both-done memory 0 (omega arith) (λ t. written sh skips start false) (write_at (tags_to_skip skips) 101 p.at.anc new p.at.forest) trim_space p.is inside_wrote z (record { says = x })

  pub inside_full : {after : Bytes} → r ≡ no_room → Writes (length memory) after no_room (written sh skips start false)
  inside_full z =
      both-full memory 0 (omega arith) (λ t. written sh skips start false) (write_at (tags_to_skip skips) 101 p.at.anc new p.at.forest) trim_space p.is inside_wrote z

pub whole_wrote : (skips : SkipList) (sh ns : Bytes) (start d : ℕ) → Started sh ns start → 0 < start → d ≡ end_at ns start → {opts : FormatOpts} → opts ≡ set_node true new
    → {t mid : Bytes} {room : ℕ} {r : Wrote} → t ≡ [] → WritesForest sh ns start d (λ anc f. write_at (tags_to_skip skips) 101 anc opts f) t room mid r
    → Writes room mid r (written sh skips start true)
whole_wrote skips sh ns start d s l q {opts} e {t} {mid} {room} {r} z w =
    let p = with_node skips sh ns start d s l q in
    alike p.is
    (subst₂ (λ (o : FormatOpts) (u : Bytes). Writes room mid r (write_at (tags_to_skip skips) 101 p.at.anc o p.at.forest u)) e z
    (w.for p.at.parent p.at.forest p.at.anc p.at.rep p.at.around))
