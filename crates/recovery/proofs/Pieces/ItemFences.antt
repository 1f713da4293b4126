-- A code block in an item: its lines stand at the indent, belong to the item, and are the fenced block that is written elsewhere.
use Prim.Native.Nat.{ℕ, zero, suc, ◌+◌, ◌-◌, ◌≤◌, max}
use Rattle.std.proofs.Common.{arith, sym, ◌∙◌, length-append, le-leb, eq-eqb, eqb-true}
use Rattle.std.specs.Prelude.{◌≡◌, Bool, true, cond, not, eqb, leb}
use Rattle.std.proofs.Math.Path.{refl, ap}
use Rattle.std.proofs.Math.Bool.{false, or-true}
use Rattle.std.proofs.lemmas.Bool.{false≢true}
use mathlib.Core.List.{List, [], ◌∷◌, ◌++◌, append-nil, append_assoc}
use Rattle.std.proofs.Math.Option.{some}
use Rattle.std.proofs.Math.ListN.{length, length-replicate, replicate}
use Rattle.std.proofs.Math.Seq.{take-append_seam}
use Rattle.spec.specs.Bytes.{Bytes, ascii, null, same, isin, every, ends_with, one, trim_end_matches, trim_start_matches, trim_end, cut_at, parts, split, join_rest, join}
use Rattle.spec.specs.Names as tag
use Rattle.spec.specs.Out.{Out, cut, keep, push, and_then, beside, nested}
use Rattle.spec.specs.Plain.{fixed_text}
use Rattle.spec.specs.SheetList.{with_final_lf}
use Rattle.spec.specs.Tree.{Forest}
use Rattle.spec.specs.Md.Ctx.{include_node, break_of}
use Rattle.spec.specs.Md.Elements.Code.{longest_run, max_backtick_run, fenced_block}
use Rattle.spec.specs.Md.Elements.List.{Item, Progress, going, name_of, truncate, at_line_start, more_lines, block_lines, is_line_end, own_line, write_list_item_indented, block_lead, block_child, item_from}
use Rattle.spec.specs.Md.MDSerializer.{Ancestors, MDSerializer, write}
use Rattle.spec.specs.Pieces.Fences.{fenced}
use Rattle.spec.specs.Pieces.Items.{belongs, all_belong, content_lines}
use Rattle.spec.specs.Reading.Lines.{space_or_tab, blank_line, column, width, unindent}
use Rattle.spec.specs.declared.ctx.ListContext.{ListContext}
use Rattle.spec.proofs.Order.{one_less}
use Rattle.spec.proofs.Tests.{and_l, and_r, every_imp, every_replicate, apart}
use Rattle.recovery.proofs.Clean.{fixed_lines_lem}
use Rattle.recovery.specs.Closed.{fixed_lines, fence_of}
use Rattle.recovery.proofs.Fences.{Under, under_first, under_lines, ended, ended_final}
use Rattle.recovery.proofs.Joined.{in_line, clean}
use Rattle.recovery.proofs.Words.{parts_part}
use Rattle.recovery.proofs.Written.Ends.{last_is, first_is, first_app, trim_cut, start_cut, ends_by, last_replicate}
use Rattle.recovery.proofs.Written.Fences.{block_lines_lem}
use Rattle.recovery.proofs.Written.Lines.{ended_join, join_first, join_last}
use Rattle.recovery.proofs.Pieces.Fences.{info_byte, info_line, block_read, block_clean}
use Rattle.recovery.proofs.Pieces.ItemColumns.{behind_marker, indent_blanks}

-- ---- a line at the indent

-- an empty line has none
unfoldable pub indented_line : Bytes → Bytes → Bytes
indented_line indent l = cond (null l) [] indent ++ l

unfoldable pub indented_lines : Bytes → List Bytes → List Bytes
indented_lines indent [] = []
indented_lines indent (l ∷ ls) = indented_line indent l ∷ indented_lines indent ls

column_least : (c : ℕ) (r : Bytes) → c ≤ column c r
unfolding column
column_least c [] = omega arith
column_least c (b ∷ r) = go (space_or_tab b) (column_least (c + width c b) r)
  where
    go : (t : Bool) → c + width c b ≤ column (c + width c b) r → c ≤ cond t (column (c + width c b) r) c
    go true h = omega arith
    go false h = omega arith

column_indent : (c n : ℕ) (r : Bytes) → c + n ≤ column c (replicate n 32 ++ r)
unfolding column space_or_tab width
column_indent c zero r = omega (arith, column_least c r)
column_indent c (suc n) r = omega (arith, column_indent (c + 1) n r)

unindent_all : (n c : ℕ) (r : Bytes) → unindent n c (replicate n 32 ++ r) ≡ r
unfolding unindent space_or_tab width
unindent_all zero c [] = refl
unindent_all zero c (b ∷ r) = refl
unindent_all (suc n) c r = go (leb 1 (suc n)) (le-leb 1 (suc n) (omega arith)) (unindent_all n (c + 1) r)
  where
    go : (t : Bool) → t ≡ true → unindent n (c + 1) (replicate n 32 ++ r) ≡ r
        → elim t [ true ↦ unindent (suc n - 1) (c + 1) (replicate n 32 ++ r) | false ↦ replicate (1 - suc n) 32 ++ (replicate n 32 ++ r) ] ≡ r
    go true e ih = rw (one_less n) ih
    go false e ih = absurd (false≢true e)

line_belongs : (n : ℕ) (l : Bytes) → belongs n (indented_line (replicate n 32) l) ≡ true
unfolding belongs indented_line null
line_belongs n [] = unfold blank_line every in refl
line_belongs n (b ∷ l) =
    rw (le-leb n (column 0 (replicate n 32 ++ (b ∷ l))) (omega (arith, column_indent 0 n (b ∷ l)))) (or-true (blank_line (replicate n 32 ++ (b ∷ l))))

line_content : (n : ℕ) (l : Bytes) → unindent n 0 (indented_line (replicate n 32) l) ≡ l
unfolding indented_line null
line_content n [] = unfold unindent in refl
line_content n (b ∷ l) = unindent_all n 0 (b ∷ l)

lines_belong : (n : ℕ) (ls : List Bytes) → all_belong n (indented_lines (replicate n 32) ls) ≡ true
unfolding all_belong indented_lines
lines_belong n [] = refl
lines_belong n (l ∷ ls) = rw (line_belongs n l) (lines_belong n ls)

lines_content : (n : ℕ) (ls : List Bytes) → content_lines n (indented_lines (replicate n 32) ls) ≡ ls
unfolding content_lines indented_lines
lines_content n [] = refl
lines_content n (l ∷ ls) = rw (line_content n l, lines_content n ls)

-- ---- the lines of the block

lf_free : (l : Bytes) → every in_line l ≡ true → every (λ b. not (is_line_end b)) l ≡ true
unfolding in_line is_line_end isin
lf_free l h = every_imp in_line (λ b. not (is_line_end b)) l (λ b e. ap not (apart in_line b 10 e refl)) h

rest_parts : (ls : List Bytes) → clean ls ≡ true → parts is_line_end (join_rest (ascii "\n") ls) ≡ ([], ls)
unfolding join_rest clean parts cut_at
rest_parts [] h = refl
rest_parts (l ∷ ls) h =
    let e : is_line_end 10 ≡ true = unfold is_line_end in refl in
    rw (
      e,
      parts_part is_line_end l (join_rest (ascii "\n") ls) (lf_free l (and_l (every in_line l) _ h)),
      rest_parts ls (and_r (every in_line l) _ h),
      append-nil l,
    )

split_lines : (l : Bytes) (ls : List Bytes) → clean (l ∷ ls) ≡ true → split is_line_end (join (ascii "\n") (l ∷ ls)) ≡ l ∷ ls
unfolding split join clean
split_lines l ls h =
    rw (
      parts_part is_line_end l (join_rest (ascii "\n") ls) (lf_free l (and_l (every in_line l) _ h)),
      rest_parts ls (and_r (every in_line l) _ h),
      append-nil l,
    )

-- the block without the line ends around it
block_trimmed : (lang s : Bytes)
    → trim_end_matches (one is_line_end) (trim_start_matches is_line_end (ascii "\n" ++ fenced_block lang s))
    ≡ join (ascii "\n") ((fence_of s ++ lang) ∷ (fixed_lines s ++ (fence_of s ∷ [])))
block_trimmed lang s =
    let ls : List Bytes = (fence_of s ++ lang) ∷ (fixed_lines s ++ (fence_of s ∷ [])) in
    let j : Bytes = join (ascii "\n") ls in
    let first : first_is is_line_end j ≡ false = join_first is_line_end (fence_of s ++ lang) (fixed_lines s ++ (fence_of s ∷ [])) (unfold fence_of first_is is_line_end in refl) in
    let last : last_is is_line_end j ≡ false =
    join_last is_line_end ((fence_of s ++ lang) ∷ fixed_lines s) (fence_of s)
    (unfold fence_of in last_replicate is_line_end (max (max_backtick_run s) 2) 96 (unfold is_line_end in refl)) in
    rw (
      block_lines_lem lang s,
      ended_join ls (unfold null in refl),
      start_cut is_line_end (10 ∷ []) (j ++ (10 ∷ [])) (unfold every is_line_end in refl) (first_app is_line_end j (10 ∷ []) first),
    )
    (trim_cut is_line_end j (10 ∷ []) last (unfold every is_line_end in refl))

-- each behind the first on a line of its own
more_ended : (item : Item) (ls : List Bytes) → item.ctx.opts.table_cell ≡ false
    → more_lines item ls ++ ascii "\n" ≡ 10 ∷ ended (indented_lines item.indent ls)
unfolding more_lines ended indented_lines indented_line
more_ended item [] c = refl
more_ended item (l ∷ ls) c =
    let b : break_of item.ctx ≡ ascii "\n" = rw c in
    rw (b, append_assoc (cond (null l) [] item.indent) (l ++ more_lines item ls) (ascii "\n"), append_assoc l (more_lines item ls) (ascii "\n"), more_ended item ls c)
    (ap (λ (z : Bytes). 10 ∷ z) (sym (append_assoc (cond (null l) [] item.indent) l (10 ∷ ended (indented_lines item.indent ls)))))

block_ended : (item : Item) (l : Bytes) (ls : List Bytes) → item.ctx.opts.table_cell ≡ false → null l ≡ false
    → item.indent ++ (block_lines item (l ∷ ls) ++ ascii "\n") ≡ ended (indented_lines item.indent (l ∷ ls))
unfolding block_lines ended indented_lines indented_line
block_ended item l ls c n =
    rw (n, append_assoc l (more_lines item ls) (ascii "\n"), more_ended item ls c) (sym (append_assoc item.indent l (10 ∷ ended (indented_lines item.indent ls))))

-- ---- what is written

-- the block is the only content of its node's text, and goes behind x: it stands at the beginning of the item, or of a line at the indent
indented_written : (self : MDSerializer) (anc : Ancestors) (node : Forest) (item : Item) (lang s t x : Bytes)
    → (write self anc (include_node item.ctx.opts) node []).text ≡ ascii "\n" ++ fenced_block lang s
    → clean ((fence_of s ++ lang) ∷ (fixed_lines s ++ (fence_of s ∷ []))) ≡ true
    → (own_line item t).text ≡ x
    → (write_list_item_indented self anc node item t).text ≡ x ++ block_lines item ((fence_of s ++ lang) ∷ (fixed_lines s ++ (fence_of s ∷ [])))
unfolding write_list_item_indented nested beside and_then push
indented_written self anc node item lang s t x w c o =
    rw (w, block_trimmed lang s, split_lines (fence_of s ++ lang) (fixed_lines s ++ (fence_of s ∷ [])) c, o)

same_self : (x : Bytes) → same x x ≡ true
unfolding same
same_self [] = refl
same_self (b ∷ x) = rw (eq-eqb b b refl) (same_self x)

-- behind a line end and the indent nothing changes
own_kept : (item : Item) (t : Bytes) → ends_with (ascii "\n") t ≡ true → (own_line item (t ++ item.indent)).text ≡ t ++ item.indent
unfolding own_line at_line_start keep
own_kept item t e =
    let n : length (t ++ item.indent) - length item.indent ≡ length t = rw (length-append t item.indent) (omega arith) in
    rw (
      ends_by item.indent t item.indent refl,
      same_self item.indent,
      n,
      take-append_seam t item.indent,
      e,
      or-true (eqb (length (t ++ item.indent)) item.start),
    )

-- behind other content the block goes to a line of its own
own_moved : (item : Item) (t : Bytes) → item.ctx.opts.table_cell ≡ false → at_line_start item t ≡ false
    → (own_line item t).text ≡ (truncate (max (length (trim_end t)) item.start) t ++ ascii "\n") ++ item.indent
unfolding own_line and_then cut push
own_moved item t c a =
    let b : break_of item.ctx ≡ ascii "\n" = rw c in
    rw (a, b) (sym (append_assoc (truncate (max (length (trim_end t)) item.start) t) (ascii "\n") item.indent))

-- t is the text with what stands before the block
pre_child : (self : MDSerializer) (anc : Ancestors) (node : Forest) (item : Item) (p : Progress) → eqb (name_of node) tag.pre ≡ true
    → item.ctx.opts.table_cell ≡ false → (t x : Bytes) → p.out.text ++ block_lead item p.is_first_block true p.out.text ≡ t
    → (write_list_item_indented self anc node item t).text ≡ x → (block_child self anc node item p).out.text ≡ x ++ ascii "\n"
unfolding block_child going and_then push
pre_child self anc node item p pre cell t x is w =
    let b : break_of item.ctx ≡ ascii "\n" = rw cell in
    let no_rule : eqb (name_of node) tag.hr ≡ false = rw (eqb-true (name_of node) tag.pre pre) in
    rw (no_rule, pre, is, w, b)

-- the block goes to the lines of `before`
pub record FenceInItem (ctx : ListContext) (begun : Out) (text before lang s : Bytes) : Type 0 where
  pub lines : List Bytes
  pub written : text ≡ before ++ ended lines
  pub belong : all_belong (length (item_from ctx begun).indent) lines ≡ true
  pub read : (more : List Bytes)
      → fenced (content_lines (length (item_from ctx begun).indent) lines ++ more) ≡ some (record { info = lang; content = with_final_lf s; more = more })

-- its first line stands straight behind the marker
pub record FenceFirst (ctx : ListContext) (begun : Out) (text before lang s : Bytes) : Type 0 where
  pub first : Bytes
  pub lines : List Bytes
  pub written : text ≡ before ++ (first ++ (10 ∷ ended lines))
  pub belong : all_belong (length (item_from ctx begun).indent) lines ≡ true
  pub read : (more : List Bytes)
      → fenced (first ∷ (content_lines (length (item_from ctx begun).indent) lines ++ more)) ≡ some (record { info = lang; content = with_final_lf s; more = more })

fence_clean : (lang s : Bytes) → every info_byte lang ≡ true → fixed_text s ≡ true
    → clean ((fence_of s ++ lang) ∷ (fixed_lines s ++ (fence_of s ∷ []))) ≡ true
fence_clean lang s i h =
    block_clean (fence_of s) lang (fixed_lines s) (unfold fence_of in every_replicate in_line (suc (max (max_backtick_run s) 2)) 96 (unfold in_line isin in refl))
    (every_imp info_byte in_line lang info_line i) (fixed_lines_lem s h)

fence_read : (lang s : Bytes) (more : List Bytes) → every info_byte lang ≡ true
    → fenced (((fence_of s ++ lang) ∷ (fixed_lines s ++ (fence_of s ∷ []))) ++ more) ≡ some (record { info = lang; content = with_final_lf s; more = more })
unfolding fence_of max_backtick_run
fence_read lang s more i =
    let k : ℕ = max (longest_run 0 s) 2 in
    let w : Under (longest_run 0 s) (fixed_lines s) = under_first (longest_run 0 s) (fixed_lines s) (under_lines 0 s) in
    rw (append_assoc (fixed_lines s) (replicate (suc k) 96 ∷ []) more)
    (block_read k (longest_run 0 s) lang (fixed_lines s) more (omega arith) (omega arith) i w
    ∙ ap (λ (r : Bytes). some (record { info = lang; content = r; more = more })) (ended_final s))

-- one fenced code block with that content and info string, for every content without CR and NUL
module _ (self : MDSerializer) (anc : Ancestors) (node : Forest) (ctx : ListContext) (begun : Out) (p : Progress) (lang s : Bytes)
    (no_cell : (item_from ctx begun).ctx.opts.table_cell ≡ false)
    (isPre : eqb (name_of node) tag.pre ≡ true)
    (alone : (write self anc (include_node (item_from ctx begun).ctx.opts) node []).text ≡ ascii "\n" ++ fenced_block lang s)
    (info : every info_byte lang ≡ true)
    (fixed : fixed_text s ≡ true) where
  fence_at : (t before : Bytes) → p.out.text ++ block_lead (item_from ctx begun) p.is_first_block true p.out.text ≡ t
      → (own_line (item_from ctx begun) t).text ≡ before ++ (item_from ctx begun).indent
      → FenceInItem ctx begun (block_child self anc node (item_from ctx begun) p).out.text before lang s
  fence_at t before is own =
      let item : Item = item_from ctx begun in
      let l : Bytes = fence_of s ++ lang in
      let ls : List Bytes = fixed_lines s ++ (fence_of s ∷ []) in
      let blanks : item.indent ≡ replicate (suc (behind_marker ctx)) 32 = indent_blanks ctx begun in
      let n : length item.indent ≡ suc (behind_marker ctx) = ap length blanks ∙ length-replicate (suc (behind_marker ctx)) 32 in
      record {
        lines = indented_lines item.indent (l ∷ ls);
        written =
            pre_child self anc node item p isPre no_cell t ((before ++ item.indent) ++ block_lines item (l ∷ ls)) is
            (indented_written self anc node item lang s t (before ++ item.indent) alone (fence_clean lang s info fixed) own)
            ∙ (append_assoc (before ++ item.indent) (block_lines item (l ∷ ls)) (ascii "\n")
            ∙ (append_assoc before item.indent (block_lines item (l ∷ ls) ++ ascii "\n")
            ∙ ap (λ (z : Bytes). before ++ z) (block_ended item l ls no_cell (unfold fence_of null in refl))));
        belong = rw (n, blanks) (lines_belong (suc (behind_marker ctx)) (l ∷ ls));
        read = λ more. rw (n, blanks, lines_content (suc (behind_marker ctx)) (l ∷ ls)) (fence_read lang s more info);
      }

  -- behind another block of the item, whose text ends with a line end
  pub fence_in_item : p.is_first_block ≡ false → ends_with (ascii "\n") p.out.text ≡ true
      → FenceInItem ctx begun (block_child self anc node (item_from ctx begun) p).out.text p.out.text lang s
  fence_in_item first e =
      fence_at (p.out.text ++ (item_from ctx begun).indent) p.out.text (unfold block_lead in rw first) (own_kept (item_from ctx begun) p.out.text e)

  -- behind a text of the item: on a line of its own behind the text that the cut leaves
  pub fence_behind_text : p.is_first_block ≡ true → at_line_start (item_from ctx begun) p.out.text ≡ false
      → FenceInItem ctx begun (block_child self anc node (item_from ctx begun) p).out.text
      (truncate (max (length (trim_end p.out.text)) (item_from ctx begun).start) p.out.text ++ ascii "\n") lang s
  fence_behind_text first a =
      fence_at p.out.text _ (unfold block_lead in rw first (append-nil p.out.text)) (own_moved (item_from ctx begun) p.out.text no_cell a)

  -- straight behind the marker, where the item has nothing yet; `item_opens` reads that line at the content column
  pub fence_first : p.is_first_block ≡ true → eqb (length p.out.text) (item_from ctx begun).start ≡ true
      → FenceFirst ctx begun (block_child self anc node (item_from ctx begun) p).out.text p.out.text lang s
  unfolding block_lines
  fence_first first a =
      let item : Item = item_from ctx begun in
      let t : Bytes = p.out.text in
      let l : Bytes = fence_of s ++ lang in
      let ls : List Bytes = fixed_lines s ++ (fence_of s ∷ []) in
      let blanks : item.indent ≡ replicate (suc (behind_marker ctx)) 32 = indent_blanks ctx begun in
      let n : length item.indent ≡ suc (behind_marker ctx) = ap length blanks ∙ length-replicate (suc (behind_marker ctx)) 32 in
      let own : (own_line item t).text ≡ t = unfold own_line at_line_start keep in rw a in
      let is : block_lines item (l ∷ ls) ++ ascii "\n" ≡ l ++ (10 ∷ ended (indented_lines item.indent ls)) =
      append_assoc l (more_lines item ls) (ascii "\n") ∙ ap (λ (z : Bytes). l ++ z) (more_ended item ls no_cell) in
      record {
        first = l;
        lines = indented_lines item.indent ls;
        written =
            pre_child self anc node item p isPre no_cell t (t ++ block_lines item (l ∷ ls)) (unfold block_lead in rw first (append-nil t))
            (indented_written self anc node item lang s t t alone (fence_clean lang s info fixed) own)
            ∙ (append_assoc t (block_lines item (l ∷ ls)) (ascii "\n") ∙ ap (λ (z : Bytes). t ++ z) is);
        belong = rw (n, blanks) (lines_belong (suc (behind_marker ctx)) ls);
        read = λ more. rw (n, blanks, lines_content (suc (behind_marker ctx)) ls) (fence_read lang s more info);
      }
