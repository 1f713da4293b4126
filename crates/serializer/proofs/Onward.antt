-- What the children of an item do goes on from where the text stands.
use native.Mathlib.Omega.{arith}
use mathlib.Core.Path.{◌≡◌, refl, sym, ap, ◌∙◌}
use mathlib.Core.Bool.{Bool, true, false, cond, not, ◌&&◌, ◌||◌}
use mathlib.Core.List.{◌∷◌}
use lib.Dec.{eqb, ltb}
use lib.ListN.{length}
use Rattle.spec.specs.Bytes.{Bytes, among, is_blank, trim_ascii_end}
use Rattle.spec.specs.Names as tag
use Rattle.spec.specs.Names.{tag_of}
use Rattle.spec.specs.Tree.{Forest, nothing, text, comment, element}
use Rattle.spec.specs.Out.{Out, Step, cut, keep, push, and_then}
use Rattle.spec.specs.Md.Ctx.{break_of}
use Rattle.spec.specs.Md.MDSerializer.{Ancestors, MDSerializer}
use Rattle.spec.specs.Md.Elements.List.{
  Item,
  Progress,
  going,
  due_line,
  rule_block,
  block_child,
  inline_child,
  item_child,
  item_children,
  name_of,
  node_is_list_item_block,
  node_is_block_wrapper,
}
use Rattle.lists_links.specs.Items.{rule_text}
use Rattle.text.proofs.Writing.{same_out}
use Rattle.serializer.specs.ListStep.{body_step, led_step, inline_step}
use Rattle.serializer.specs.Writers.{progress_at}

-- p as one begins at its text
abbrev pub afresh : Progress → Progress
afresh p = progress_at p.is_first_block p.blank_line_due p.out.text

-- q, which began where p ended, counted from where p began
abbrev pub joined : Progress → Progress → Progress
joined p q = record { is_first_block = q.is_first_block; blank_line_due = q.blank_line_due; out = and_then p.out (λ t. q.out) }

-- F looks at nothing of p but what `afresh` keeps
abbrev pub Onward : (Progress → Progress) → Type 0
Onward F = (p : Progress) → F p ≡ joined p (F (afresh p))

same_progress : {first due : Bool} {a b : Out} → a ≡ b
    → ◌≡◌ {A = Progress} (record { is_first_block = first; blank_line_due = due; out = a }) (record { is_first_block = first; blank_line_due = due; out = b })
same_progress {first} {due} e = ap (λ (o : Out). record { is_first_block = first; blank_line_due = due; out = o }) e

onward_none : (p : Progress) → p ≡ joined p (afresh p)
unfolding and_then keep
onward_none p = same_progress (same_out refl (omega arith))

onward_going : (first due : Bool) (f : Step) (p : Progress) → going first due p f ≡ joined p (going first due (afresh p) f)
unfolding going and_then keep
onward_going first due f p = same_progress (same_out refl (omega arith))

onward_cond : (b : Bool) (p x y : Progress) {u v : Progress} → u ≡ joined p x → v ≡ joined p y → cond b u v ≡ joined p (cond b x y)
onward_cond true p x y e d = e
onward_cond false p x y e d = d

joined_both : (p q r : Progress) → joined (joined p q) r ≡ joined p (joined q r)
unfolding and_then
joined_both p q r = same_progress (same_out refl (omega arith))

-- the rule of `rule_block` behind the text t
abbrev pub rule_of : Item → Bytes → Step
rule_of item t u = and_then (cut trim_ascii_end u) (push (rule_text item (trim_ascii_end t)))

-- G behind F
onward_then : (F G : Progress → Progress) → Onward F → Onward G → Onward (λ p. G (F p))
unfolding and_then
onward_then F G f g p =
    let q = F (afresh p) in
    ap G (f p) ∙ g (joined p q) ∙ joined_both p q (G (afresh q)) ∙ ap (joined p) (sym (g q))

module _ (item : Item) where
  onward_due : (exempt : Bool) → Onward (due_line exempt item)
  unfolding due_line
  onward_due exempt p =
      onward_cond (p.blank_line_due && not exempt) p (going p.is_first_block false (afresh p) (push (break_of item.ctx))) (afresh p)
      (onward_going p.is_first_block false (push (break_of item.ctx)) p) (onward_none p)

  onward_rule : Onward (rule_block item)
  unfolding rule_block keep
  onward_rule p =
      let t = p.out.text in
      let due = p.blank_line_due || ltb item.start (length t) in
      onward_cond item.ctx.opts.table_cell p (going p.is_first_block due (afresh p) keep) (going false p.blank_line_due (afresh p) (rule_of item t))
      (onward_going p.is_first_block due keep p) (onward_going false p.blank_line_due (rule_of item t) p)

module _ (self : MDSerializer) (item : Item) (anc : Ancestors) (node : Forest) where
  -- the step of a block
  pub block_is : (p : Progress)
      → block_child self anc node item p
      ≡ cond (eqb (name_of node) tag.hr) (rule_block item p)
      (going false (eqb (name_of node) tag.pre || p.blank_line_due) p (led_step self anc node item p.is_first_block))
  unfolding block_child led_step body_step
  block_is p = refl

  -- the step of any other node
  pub inline_is : (blank : Bool) (p : Progress)
      → inline_child self anc node blank item p ≡ going p.is_first_block p.blank_line_due p (inline_step self anc node blank item)
  unfolding inline_child inline_step
  inline_is blank p = refl

  pub onward_block : Onward (block_child self anc node item)
  unfolding keep
  onward_block p =
      let due = eqb (name_of node) tag.pre || p.blank_line_due in
      let step = led_step self anc node item p.is_first_block in
      block_is p
      ∙ onward_cond (eqb (name_of node) tag.hr) p (rule_block item (afresh p)) (going false due (afresh p) step) (onward_rule item p) (onward_going false due step p)
      ∙ ap (joined p) (sym (block_is (afresh p)))

  pub onward_inline : (blank : Bool) → Onward (inline_child self anc node blank item)
  onward_inline blank p =
      let step = inline_step self anc node blank item in
      inline_is blank p ∙ onward_going p.is_first_block p.blank_line_due step p ∙ ap (joined p) (sym (inline_is blank (afresh p)))

  onward_child : (blank : Bool) → Onward (item_child self anc node blank item)
  unfolding item_child
  onward_child blank =
      onward_then (due_line (eqb (name_of node) tag.pre || blank) item)
      (λ q. cond (node_is_list_item_block (name_of node)) (block_child self anc node item q) (inline_child self anc node blank item q))
      (onward_due item (eqb (name_of node) tag.pre || blank))
      (λ q.
      onward_cond (node_is_list_item_block (name_of node)) q (block_child self anc node item (afresh q)) (inline_child self anc node blank item (afresh q))
      (onward_block q) (onward_inline blank q))

pub onward_children : (self : MDSerializer) (item : Item) (anc : Ancestors) (f : Forest) → Onward (item_children self anc f item)
unfolding item_children
onward_children self item anc nothing p = onward_none p
onward_children self item anc (text s rest) p =
    onward_then (item_child self anc (text s nothing) (is_blank s) item) (item_children self anc rest item)
    (onward_child self item anc (text s nothing) (is_blank s)) (onward_children self item anc rest) p
onward_children self item anc (comment s rest) p = onward_children self item anc rest p
onward_children self item anc (element name attrs kids rest) p =
    let skipped = among name self.skip_tags in
    let wrapper = node_is_block_wrapper (tag_of name) kids in
    let unwrapped = item_children self (attrs ∷ anc) kids item in
    let alone = item_child self anc (element name attrs kids nothing) false item in
    onward_then (λ q. cond skipped q (cond wrapper (unwrapped q) (alone q))) (item_children self anc rest item)
    (λ q.
    onward_cond skipped q (afresh q) (cond wrapper (unwrapped (afresh q)) (alone (afresh q))) (onward_none q)
    (onward_cond wrapper q (unwrapped (afresh q)) (alone (afresh q)) (onward_children self item (attrs ∷ anc) kids q)
    (onward_child self item anc (element name attrs kids nothing) false q)))
    (onward_children self item anc rest) p
