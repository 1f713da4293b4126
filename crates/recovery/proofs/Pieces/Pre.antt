-- `write_pre`: the language is an info string, and the block begins a line.
use Rattle.std.specs.Prelude.{ℕ, ◌-◌, ◌≡◌, Bool, true, false, cond, ◌||◌, List, [], ◌∷◌, ◌++◌, eqb, length, drop}
use Rattle.std.proofs.Math.Path.{refl, sym, ap}
use Rattle.std.proofs.Common.{◌∙◌, append-nil, append_assoc, take-append-drop}
use Rattle.std.proofs.Math.Option.{Option, none, some}
use Rattle.std.proofs.Math.ListN.{take}
use Rattle.spec.specs.Bytes.{Bytes, ascii, isin, same, among, every, starts_with, ends_with, words, first_word, or_else, or_nothing}
use Rattle.spec.specs.Tree.{Attr, Forest, nothing, text, comment, element, attr, text_of}
use Rattle.spec.specs.Names as tag
use Rattle.spec.specs.Names.{tag_of}
use Rattle.spec.specs.Md.Elements.Code.{is_alphanumeric, filter, sanitize_attr_value, find_code_lang_attribute, nearest_language, language_class, class_language, find_code_language_css_class, find_code_language, fenced_block, write_pre}
use Rattle.spec.specs.Md.Constants.{CODE_LANGUAGE_ATTRIBUTES, CODE_LANGUAGE_PREFIX}
use Rattle.spec.specs.Md.MDSerializer.{Ancestors}
use Rattle.spec.specs.declared.ctx.FormatOpts.{FormatOpts}
use Rattle.spec.specs.Out.{push}
use Rattle.recovery.proofs.Written.Ends.{ends_by}
use Rattle.spec.proofs.Tests.{same_eq}
use Rattle.recovery.proofs.Pieces.Fences.{info_byte}

-- ---- the language is such an info string

filter_every : (q : ℕ → Bool) (s : Bytes) → every q (filter q s) ≡ true
unfolding filter every
filter_every q [] = refl
filter_every q (b ∷ s) = go (q b) refl (filter_every q s)
  where
    go : (t : Bool) → q b ≡ t → every q (filter q s) ≡ true → every q (cond t (b ∷ filter q s) (filter q s)) ≡ true
    go true e h = rw e h
    go false e h = h

pub sanitized : (raw : Bytes) → every info_byte (sanitize_attr_value raw) ≡ true
unfolding sanitize_attr_value info_byte
sanitized raw = filter_every (λ b. is_alphanumeric b || isin b (ascii "-_+.#")) (first_word (words raw))

-- a language, if there is one
unfoldable Info : Option Bytes → Type 0
Info o = every info_byte (or_nothing o) ≡ true

info_none : Info none
unfolding Info or_nothing every
info_none = refl

info_some : (raw : Bytes) → Info (some (sanitize_attr_value raw))
unfolding Info or_nothing
info_some raw = sanitized raw

info_or : (x y : Option Bytes) → Info x → Info y → Info (or_else x y)
unfolding or_else
info_or none y h k = k
info_or (some s) y h k = h

info_cond : (t : Bool) (x y : Option Bytes) → Info x → Info y → Info (cond t x y)
info_cond true x y h k = h
info_cond false x y h k = k

attribute_info : (attrs : List Attr) → Info (find_code_lang_attribute attrs)
unfolding find_code_lang_attribute
attribute_info [] = info_none
attribute_info (a ∷ more) = info_cond (among a.name CODE_LANGUAGE_ATTRIBUTES) _ _ (info_some a.value) (attribute_info more)

nearest_info : (all : List (List Attr)) → Info (nearest_language all)
unfolding nearest_language
nearest_info [] = info_none
nearest_info (attrs ∷ more) = info_or (find_code_lang_attribute attrs) (nearest_language more) (attribute_info attrs) (nearest_info more)

class_info : (ws : List Bytes) → Info (language_class ws)
unfolding language_class
class_info [] = info_none
class_info (w ∷ ws) =
    info_cond (starts_with CODE_LANGUAGE_PREFIX w) _ _ (info_some (drop (length CODE_LANGUAGE_PREFIX) w)) (class_info ws)

value_info : (value : Option Bytes) → Info (class_language value)
unfolding class_language
value_info none = info_none
value_info (some s) = class_info (words s)

code_info : (kids : Forest) → Info (find_code_language_css_class kids)
unfolding find_code_language_css_class
code_info nothing = info_none
code_info (text s rest) = code_info rest
code_info (comment s rest) = code_info rest
code_info (element name attrs kids rest) =
    info_cond (eqb (tag_of name) tag.code) _ _ (value_info (attr (ascii "class") attrs)) (code_info rest)

pub language_info : (anc : Ancestors) (attrs : List Attr) (kids : Forest)
    → every info_byte (or_nothing (find_code_language anc attrs kids)) ≡ true
unfolding find_code_language Info
language_info anc attrs kids =
    info_or (nearest_language (attrs ∷ take 3 anc)) (find_code_language_css_class kids)
    (nearest_info (attrs ∷ take 3 anc)) (code_info kids)

-- ---- `write_pre`

-- the text up to the beginning of the line
unfoldable pub line_begun : Bytes → Bytes
line_begun t = t ++ cond (ends_with (ascii "\n\n") t) [] (ascii "\n")

two_one : (t : Bytes) → ends_with (ascii "\n\n") t ≡ true → ends_with (ascii "\n") t ≡ true
unfolding same
two_one t h =
    let n : ℕ = length t - 2 in
    let e : drop n t ≡ 10 ∷ 10 ∷ [] = unfold ends_with in same_eq _ _ h in
    let f : t ≡ (take n t ++ (10 ∷ [])) ++ (10 ∷ []) =
    sym (take-append-drop n t) ∙ (ap (λ (z : Bytes). take n t ++ z) e ∙ simp append_assoc) in
    ap (ends_with (ascii "\n")) f ∙ ends_by (ascii "\n") (take n t ++ (10 ∷ [])) (10 ∷ []) refl

pub line_begun_lem : (t : Bytes) → ends_with (ascii "\n") (line_begun t) ≡ true
unfolding line_begun same
line_begun_lem t = go (ends_with (ascii "\n\n") t) refl
  where
    go : (u : Bool) → ends_with (ascii "\n\n") t ≡ u → ends_with (ascii "\n") (t ++ cond u [] (ascii "\n")) ≡ true
    go true e = rw append-nil (two_one t e)
    go false e = ends_by (ascii "\n") t (ascii "\n") refl

-- outside a link's text it appends the block
pub pre_block : (anc : Ancestors) (opts : FormatOpts) (attrs : List Attr) (kids : Forest) (t : Bytes) → opts.link_body ≡ false
    → (write_pre anc opts attrs kids t).text
    ≡ line_begun t ++ fenced_block (or_nothing (find_code_language anc attrs kids)) (text_of kids)
unfolding write_pre push line_begun
pre_block anc opts attrs kids t h = rw (h, append_assoc)
