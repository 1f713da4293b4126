-- The text that the writer gives a list of a plain sheet is that of its lines, through the trims of the whole text behind each
-- item: any number of line ends may begin the text before an item, none begins it behind one.
use Rattle.std.specs.Prelude.{ℕ, zero, suc, ◌+◌, ◌≤◌, ◌<◌, ◌≡◌, Bool, true, false, cond, ◌&&◌, List, [], ◌∷◌, ◌++◌, replicate}
use Rattle.std.proofs.Common.{arith, sym, ap, ◌∙◌, append-nil, append_assoc}
use Rattle.std.proofs.Math.Path.{refl}
use Rattle.std.proofs.lemmas.Bool.{false≢true}
use Rattle.std.proofs.Math.Option.{Option}
use Rattle.spec.specs.Bytes.{Bytes, ascii, null, every, white, isin, blank, words, trim_end_matches}
use Rattle.spec.specs.Names.{tag_of}
use Rattle.spec.specs.Tree.{Attr, Forest, nothing, text, comment, element, height}
use Rattle.spec.specs.ListNumber.{first_due, item_number, next_due}
use Rattle.spec.specs.Plain.{plain_text, no_node, items, item_content, lists}
use Rattle.spec.specs.Md.Constants.{DEFAULT_SKIP_TAGS}
use Rattle.spec.specs.Md.TextUtils.{trim_blanks, ends_with_white}
use Rattle.spec.specs.Md.Ctx.{offset_of}
use Rattle.spec.specs.Md.MDSerializer.{Ancestors, MDSerializer}
use Rattle.spec.specs.Out.{and_then, keep}
use Rattle.spec.specs.Md.Elements.List.{kind_of, list_children}
use Rattle.spec.specs.Md.Serializer.{write_nodes, write_element_node, write_at, serializer}
use Rattle.spec.proofs.Tests.{and_l, and_r}
use Rattle.recovery.proofs.Fences.{ended}
use Rattle.recovery.proofs.Lists.{ItemOk, item_ok, ListOk, list_ok}
use Rattle.recovery.specs.Closed.{phrase, marker, deeper, item_line, spaced, list_interrupts, items_lines, content_lines, lists_lines}
use Rattle.recovery.proofs.Written.Ends.{last_is, first_is, last_keep, first_app, trim_fix}
use Rattle.recovery.proofs.Written.Breaks.{lfs, sep, blank_white, end_blank, broken, broken_word, broken_line, broken_lines, trimmed, trim_core}
use Rattle.recovery.proofs.Written.Lines.{below, ended_app, below_app, below_nil, below_ended, sep_ended, spaced_app, spaced_some, tidy, tidy_spaced, tidy_last, tidy_end}
use Rattle.recovery.proofs.Written.Phrases.{marker_first, item_last, items_some, items_tidy, lists_tidy}
use Rattle.recovery.proofs.Written.Contexts.{opts_at, context_at, capped}
use Rattle.recovery.proofs.Written.ListTexts.{content_text, items_text, list_text}
use Rattle.recovery.proofs.Written.Seen.{list_interrupts_lem}
use Rattle.recovery.proofs.Written.Known.{known_list}

-- where an item may begin: behind nothing or a line end, and so that its blanks do not begin the text
pub record Room (x : Bytes) (i : ℕ) : Type 0 where
  pub after : last_is blank (10 ∷ x) ≡ false
  pub begins : (r : Bytes) → first_is white r ≡ false → first_is white (x ++ (replicate i 32 ++ r)) ≡ false

pub lfs_last : (k : ℕ) (x : Bytes) → last_is blank (10 ∷ x) ≡ false → last_is blank (10 ∷ (lfs k ++ x)) ≡ false
unfolding lfs last_is null
lfs_last zero x h = h
lfs_last (suc k) x h = lfs_last k x h

pub trim_behind : (y : Bytes) → last_is blank (10 ∷ y) ≡ false → trim_blanks y ≡ y
unfolding last_is null trim_blanks trim_end_matches
trim_behind [] h = refl
trim_behind (b ∷ y) h = trim_fix blank (b ∷ y) h

room_lf : (x y : Bytes) → last_is blank (10 ∷ (x ++ (y ++ ascii "\n"))) ≡ false
room_lf x y =
    let l : last_is blank (ascii "\n") ≡ false = unfold last_is blank null in refl in
    last_keep blank (10 ∷ x) (y ++ ascii "\n") (last_keep blank y (ascii "\n") l)

pub sep_room : (g : Bool) (x : Bytes) (j : ℕ) → first_is white x ≡ false → Room (x ++ sep g) j
unfolding sep
sep_room true x j f =
    record { after = room_lf x []; begins = λ y h. first_app white (x ++ ascii "\n") (replicate j 32 ++ y) (first_app white x (ascii "\n") f) }
sep_room false x j f =
    record { after = room_lf x (ascii "\n"); begins = λ y h. first_app white (x ++ ascii "\n\n") (replicate j 32 ++ y) (first_app white x (ascii "\n\n") f) }

-- ---- an item

item_ended : (x L : Bytes) (LL : List Bytes) → ((x ++ L) ++ below LL) ++ ascii "\n" ≡ x ++ ended (L ∷ LL)
unfolding ended
item_ended x L LL = rw (below_ended LL) (append_assoc (x ++ L) (below LL) (ascii "\n") ∙ append_assoc x L (below LL ++ ascii "\n"))

-- f writes what stands behind the words, and z is a blank for white bytes behind them
item_real : (f : Bytes → Bytes) (LL : List Bytes) (i : ℕ) (number : Option ℕ) (s z : Bytes) (k : ℕ) (x : Bytes) → Room x i → plain_text s ≡ true
    → ((k : ℕ) (x : Bytes) → first_is white x ≡ false → last_is white x ≡ false → trimmed (f (lfs k ++ (x ++ z))) ≡ x ++ below LL)
    → trimmed (f (trim_blanks (lfs k ++ x) ++ (item_line i number (words s) ++ z))) ++ ascii "\n" ≡ x ++ ended (item_line i number (words s) ∷ LL)
item_real f LL i number s z k x r h g =
    let L : Bytes = item_line i number (words s) in
    ap (λ (y : Bytes). trimmed (f (y ++ (L ++ z))) ++ ascii "\n") (trim_behind (lfs k ++ x) (lfs_last k x r.after))
    ∙ (ap (λ (y : Bytes). trimmed (f y) ++ ascii "\n") (append_assoc (lfs k) x (L ++ z) ∙ ap (λ (y : Bytes). lfs k ++ y) (sym (append_assoc x L z)))
    ∙ (ap (λ (y : Bytes). y ++ ascii "\n")
    (g k (x ++ L) (unfold item_line in r.begins (marker number ++ phrase (words s)) (marker_first number (phrase (words s)))) (last_keep white x L (item_last i number s h)))
    ∙ item_ended x L LL))

-- with the item's line written out
item_written : (f : Bytes → Bytes) (LL : List Bytes) (i : ℕ) (number : Option ℕ) (s z : Bytes) (k : ℕ) (x : Bytes) → Room x i → plain_text s ≡ true
    → ((k : ℕ) (x : Bytes) → first_is white x ≡ false → last_is white x ≡ false → trimmed (f (lfs k ++ (x ++ z))) ≡ x ++ below LL)
    → trimmed (f (trim_blanks (lfs k ++ x) ++ ((replicate i 32 ++ (marker number ++ phrase (words s))) ++ z))) ++ ascii "\n"
    ≡ x ++ ended (item_line i number (words s) ∷ LL)
unfolding item_line
item_written f LL i number s z k x r h g = item_real f LL i number s z k x r h g

item_room : (x : Bytes) (i : ℕ) (number : Option ℕ) (ws LL : List Bytes) → Room x i → Room (x ++ ended (item_line i number ws ∷ LL)) i
unfolding ended item_line
item_room x i number ws LL r =
    let m : Bytes = marker number ++ phrase ws in
    record {
      after = rw (below_ended LL, ← append_assoc (replicate i 32 ++ m) (below LL) (ascii "\n")) (room_lf x ((replicate i 32 ++ m) ++ below LL));
      begins =
          λ y h.
          first_app white (x ++ ((replicate i 32 ++ m) ++ (10 ∷ ended LL))) (replicate i 32 ++ y)
          (rw (append_assoc (replicate i 32) m (10 ∷ ended LL)) (r.begins (m ++ (10 ∷ ended LL)) (first_app white m (10 ∷ ended LL) (marker_first number (phrase ws)))));
    }

content_room : (kids : Forest) (x : Bytes) (i : ℕ) (number : Option ℕ) → item_content kids ≡ true → Room x i → Room (x ++ ended (content_lines kids i number)) i
unfolding item_content content_lines
content_room nothing x i number h r = absurd (false≢true h)
content_room (text s rest) x i number h r = item_room x i number (words s) (lists_lines rest (i + deeper number) true) r
content_room (comment s rest) x i number h r = absurd (false≢true h)
content_room (element name attrs kids rest) x i number h r = absurd (false≢true h)

-- ---- lists, one after the other

lines_mid : (g : Bool) (LI : List Bytes) (x : Bytes) → null LI ≡ false → tidy LI ≡ true
    → broken false ((x ++ sep g) ++ ended LI) ≡ (x ++ below (spaced g LI)) ++ ascii "\n\n"
lines_mid g LI x n t =
    ap (broken false) (append_assoc x (sep g) (ended LI) ∙ (ap (λ (y : Bytes). x ++ y) (sep_ended g LI) ∙ sym (append_assoc x (below (spaced g LI)) (ascii "\n"))))
    ∙ broken_line (x ++ below (spaced g LI)) (tidy_last (spaced g LI) x (spaced_some g LI n) (tidy_spaced g LI n t))

list_mid : (g : Bool) (kids : Forest) (j : ℕ) (due : Option ℕ) (x : Bytes) → items kids due ≡ true → no_node kids ≡ false
    → broken false ((x ++ sep g) ++ ended (items_lines kids j due)) ≡ (x ++ below (spaced g (items_lines kids j due))) ++ ascii "\n\n"
list_mid g kids j due x h n = lines_mid g (items_lines kids j due) x (items_some kids j due h n) (items_tidy kids j due h)

list_join : (g : Bool) (LI LL : List Bytes) (x : Bytes) → (x ++ below (spaced g LI)) ++ below LL ≡ x ++ below (spaced g (LI ++ LL))
list_join g LI LL x = rw (spaced_app g LI LL, below_app (spaced g LI) LL) (append_assoc x (below (spaced g LI)) (below LL))

trim_tail : (x : Bytes) → first_is white x ≡ false → last_is white x ≡ false → trimmed (x ++ ascii "\n\n") ≡ x
trim_tail x f l = unfold lfs in trim_core 0 x (ascii "\n\n") f l (unfold every white isin in refl)

trim_head : (k : ℕ) (x z : Bytes) → first_is white x ≡ false → last_is white x ≡ false → every blank z ≡ true → trimmed (lfs k ++ (x ++ z)) ≡ x
trim_head k x z f l w = trim_core k x z f l (blank_white z w)

first_list : (g : Bool) (k : ℕ) (x z : Bytes) → last_is white x ≡ false → every blank z ≡ true
    → broken g (lfs k ++ (x ++ z)) ≡ lfs k ++ (x ++ sep g)
first_list g k x z l w =
    ap (broken g) (sym (append_assoc (lfs k) x z))
    ∙ (broken_word g (lfs k ++ x) z (last_keep white (lfs k) x l) w ∙ append_assoc (lfs k) x (sep g))

no_lfs : (t : Bool) (y : Bytes) → cond t [] [] ++ y ≡ y
no_lfs true y = refl
no_lfs false y = refl

abbrev at : ℕ → MDSerializer
at m = serializer DEFAULT_SKIP_TAGS m

-- a list, from what stands before its first item; the last premise says what its items give
pub list_step : (m : ℕ) (anc : Ancestors) (b : Bool) (j : ℕ) (name : Bytes) (attrs : List Attr) (kids rest : Forest) (t : Bytes) (k : ℕ) (y : Bytes)
    → ListOk name attrs kids rest
    → broken (b && list_interrupts (first_due (tag_of name) attrs) kids) t ≡ lfs k ++ y
    → ((o : ℕ)
    → (list_children (at m) (attrs ∷ anc) kids (context_at b o j (capped (first_due (tag_of name) attrs))) (lfs k ++ y)).text
    ≡ cond (no_node kids) (lfs k) [] ++ (y ++ ended (items_lines kids j (first_due (tag_of name) attrs))))
    → (write_element_node (at m) anc (opts_at b j) name attrs kids t).text ≡ broken false (y ++ ended (items_lines kids j (first_due (tag_of name) attrs)))
list_step m anc b j name attrs kids rest t k y ok e items =
    let due : Option ℕ = first_due (tag_of name) attrs in
    let o : ℕ = j + offset_of (kind_of (tag_of name) attrs) in
    list_text DEFAULT_SKIP_TAGS m anc b j name attrs kids t ok.is_l (known_list name ok.is_l)
    ∙ (ap (λ (c : Bool). broken false (list_children (at m) (attrs ∷ anc) kids (context_at b o j (capped due)) (broken (b && c) t)).text) (list_interrupts_lem (tag_of name) attrs kids ok.inner)
    ∙ (ap (λ (u : Bytes). broken false (list_children (at m) (attrs ∷ anc) kids (context_at b o j (capped due)) u).text) e
    ∙ (ap (broken false) (items o)
    ∙ ap (λ (c : Bool). broken false (cond c (lfs k) [] ++ (y ++ ended (items_lines kids j due)))) ok.some_item)))

-- the text up to a list ends as its last line does
list_last : (g : Bool) (kids : Forest) (j : ℕ) (due : Option ℕ) (x : Bytes) → items kids due ≡ true → no_node kids ≡ false
    → last_is white (x ++ below (spaced g (items_lines kids j due))) ≡ false
list_last g kids j due x h n =
    let LI : List Bytes = items_lines kids j due in
    let s : null LI ≡ false = items_some kids j due h n in
    tidy_last (spaced g LI) x (spaced_some g LI s) (tidy_spaced g LI s (items_tidy kids j due h))

mutual
  unfolding items_lines content_lines lists_lines items item_content lists list_children keep and_then height no_node ended write_nodes lfs sep serializer

  -- the items of a list
  pub items_real : (f : Forest) (m : ℕ) (anc : Ancestors) (b : Bool) (o i : ℕ) (due : Option ℕ) (k : ℕ) (x : Bytes) → height f < m → items f due ≡ true → Room x i
      → (list_children (at m) anc f (context_at b o i (capped due)) (lfs k ++ x)).text ≡ cond (no_node f) (lfs k) [] ++ (x ++ ended (items_lines f i due))
  items_real nothing m anc b o i due k x low h r = ap (λ (y : Bytes). lfs k ++ y) (sym (append-nil x))
  items_real (text s rest) m anc b o i due k x low h r = absurd (false≢true h)
  items_real (comment s rest) m anc b o i due k x low h r = absurd (false≢true h)
  items_real (element name attrs kids rest) m anc b o i due k x low h r =
      let ok : ItemOk due name attrs kids rest = item_ok due name attrs kids rest h in
      let number : Option ℕ = item_number due attrs in
      let y : Bytes = x ++ ended (content_lines kids i number) in
      items_text (at m) anc name attrs kids rest b o i due (lfs k ++ x) ok
      ∙ (ap (λ (u : Bytes). (list_children (at m) anc rest (context_at b (i + deeper number) i (capped (next_due number))) u).text)
      (content_real kids m (attrs ∷ anc) i number k x (omega arith) ok.inner r)
      ∙ (items_real rest m anc b (i + deeper number) i (next_due number) 0 y (omega arith) ok.others (content_room kids x i number ok.inner r)
      ∙ (no_lfs (no_node rest) (y ++ ended (items_lines rest i (next_due number)))
      ∙ (append_assoc x (ended (content_lines kids i number)) (ended (items_lines rest i (next_due number)))
      ∙ ap (λ (u : Bytes). x ++ u) (sym (ended_app (content_lines kids i number) (items_lines rest i (next_due number))))))))

  -- what an item holds
  content_real : (kids : Forest) (m : ℕ) (anc : Ancestors) (i : ℕ) (number : Option ℕ) (k : ℕ) (x : Bytes) → height kids < m → item_content kids ≡ true → Room x i
      → trimmed (write_at DEFAULT_SKIP_TAGS m anc (opts_at true (i + deeper number)) kids (trim_blanks (lfs k ++ x) ++ (replicate i 32 ++ marker number))).text ++ ascii "\n"
      ≡ x ++ ended (content_lines kids i number)
  content_real nothing m anc i number k x low h r = absurd (false≢true h)
  content_real (text s rest) zero anc i number k x low h r = absurd (omega arith)
  content_real (text s rest) (suc m) anc i number k x low h r =
      let j : ℕ = i + deeper number in
      let z : Bytes = cond (ends_with_white s) (ascii " ") [] in
      let w : plain_text s ≡ true = and_l (plain_text s) _ h in
      ap (λ (u : Bytes). trimmed u ++ ascii "\n") (content_text DEFAULT_SKIP_TAGS m anc j i number (trim_blanks (lfs k ++ x)) s rest w)
      ∙ item_written (λ u. (write_nodes (at m) anc (opts_at true j) rest u).text) (lists_lines rest j true) i number s z k x r w
      (λ k x f l. lists_first rest m anc j k x z (omega arith) (and_r (plain_text s) _ h) f l (end_blank (ends_with_white s)))
  content_real (comment s rest) m anc i number k x low h r = absurd (false≢true h)
  content_real (element name attrs kids rest) m anc i number k x low h r = absurd (false≢true h)

  -- the lists of an item, from the one that stands behind its words on
  lists_first : (f : Forest) (m : ℕ) (anc : Ancestors) (j k : ℕ) (x z : Bytes) → height f ≤ m → lists f ≡ true → first_is white x ≡ false → last_is white x ≡ false
      → every blank z ≡ true → trimmed (write_nodes (at m) anc (opts_at true j) f (lfs k ++ (x ++ z))).text ≡ x ++ below (lists_lines f j true)
  lists_first nothing m anc j k x z low h f l w = trim_head k x z f l w ∙ sym (below_nil x)
  lists_first (text s rest) m anc j k x z low h f l w = absurd (false≢true h)
  lists_first (comment s rest) m anc j k x z low h f l w = absurd (false≢true h)
  lists_first (element name attrs kids rest) m anc j k x z low h f l w =
      let ok : ListOk name attrs kids rest = list_ok name attrs kids rest h in
      let due : Option ℕ = first_due (tag_of name) attrs in
      let g : Bool = list_interrupts due kids in
      let LI : List Bytes = items_lines kids j due in
      let y : Bytes = x ++ below (spaced g LI) in
      let first : first_is white y ≡ false = first_app white x (below (spaced g LI)) f in
      let last : last_is white y ≡ false = list_last g kids j due x ok.inner ok.some_item in
      ap (λ (u : Bytes). trimmed (write_nodes (at m) anc (opts_at true j) rest u).text)
      (list_step m anc true j name attrs kids rest (lfs k ++ (x ++ z)) k (x ++ sep g) ok (first_list g k x z l w)
      (λ o. items_real kids m (attrs ∷ anc) true o j due k (x ++ sep g) (omega arith) ok.inner (sep_room g x j f))
      ∙ list_mid g kids j due x ok.inner ok.some_item)
      ∙ (ap trimmed (lists_next rest m anc j y (omega arith) ok.others first last)
      ∙ (trim_tail (y ++ below (lists_lines rest j false)) (first_app white y (below (lists_lines rest j false)) first) (tidy_end (lists_lines rest j false) y last (lists_tidy rest j false ok.others))
      ∙ list_join g LI (lists_lines rest j false) x))

  -- the lists behind another
  lists_next : (f : Forest) (m : ℕ) (anc : Ancestors) (j : ℕ) (x : Bytes) → height f ≤ m → lists f ≡ true → first_is white x ≡ false → last_is white x ≡ false
      → (write_nodes (at m) anc (opts_at true j) f (x ++ ascii "\n\n")).text ≡ (x ++ below (lists_lines f j false)) ++ ascii "\n\n"
  lists_next nothing m anc j x low h f l = ap (λ (y : Bytes). y ++ ascii "\n\n") (sym (below_nil x))
  lists_next (text s rest) m anc j x low h f l = absurd (false≢true h)
  lists_next (comment s rest) m anc j x low h f l = absurd (false≢true h)
  lists_next (element name attrs kids rest) m anc j x low h f l =
      let ok : ListOk name attrs kids rest = list_ok name attrs kids rest h in
      let due : Option ℕ = first_due (tag_of name) attrs in
      let LI : List Bytes = items_lines kids j due in
      let y : Bytes = x ++ below (spaced false LI) in
      ap (λ (u : Bytes). (write_nodes (at m) anc (opts_at true j) rest u).text)
      (list_step m anc true j name attrs kids rest (x ++ ascii "\n\n") 0 (x ++ sep false) ok (broken_lines (list_interrupts due kids) x)
      (λ o. items_real kids m (attrs ∷ anc) true o j due 0 (x ++ sep false) (omega arith) ok.inner (sep_room false x j f))
      ∙ list_mid false kids j due x ok.inner ok.some_item)
      ∙ (lists_next rest m anc j y (omega arith) ok.others (first_app white x (below (spaced false LI)) f) (list_last false kids j due x ok.inner ok.some_item)
      ∙ ap (λ (u : Bytes). u ++ ascii "\n\n") (list_join false LI (lists_lines rest j false) x))
