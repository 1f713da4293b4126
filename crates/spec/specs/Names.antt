-- The element names that the writers know, each by a small number.
use Rattle.std.specs.Prelude.{ℕ, suc, ◌≡◌, refl, cond, List, [], ◌∷◌, map}
use Rattle.spec.specs.Bytes.{Bytes, ascii, same}

unfoldable pub names : List Bytes
names =
    ascii "article" ∷ ascii "section" ∷ ascii "div" ∷ ascii "p" ∷ ascii "h1" ∷ ascii "h2" ∷ ascii "h3" ∷ ascii "h4"
    ∷ ascii "h5" ∷ ascii "h6" ∷ ascii "ul" ∷ ascii "ol" ∷ ascii "dl" ∷ ascii "table" ∷ ascii "hr" ∷ ascii "li"
    ∷ ascii "tr" ∷ ascii "th" ∷ ascii "td" ∷ ascii "br" ∷ ascii "a" ∷ ascii "img" ∷ ascii "pre" ∷ ascii "code"
    ∷ ascii "strong" ∷ ascii "b" ∷ ascii "em" ∷ ascii "i" ∷ ascii "thead"
    ∷ ascii "tbody" ∷ []

-- x's place in the list, counted from n; 0 where it has none
unfoldable pub place : ℕ → Bytes → List Bytes → ℕ
place n x [] = 0
place n x (y ∷ ys) = cond (same x y) n (place (suc n) x ys)

-- the number of a name; 0 is every other name
unfoldable pub tag_of : Bytes → ℕ
tag_of name = place 1 name names

abbrev pub article : ℕ
article = 1

abbrev pub section : ℕ
section = 2

abbrev pub div : ℕ
div = 3

abbrev pub p : ℕ
p = 4

abbrev pub h1 : ℕ
h1 = 5

abbrev pub h2 : ℕ
h2 = 6

abbrev pub h3 : ℕ
h3 = 7

abbrev pub h4 : ℕ
h4 = 8

abbrev pub h5 : ℕ
h5 = 9

abbrev pub h6 : ℕ
h6 = 10

abbrev pub ul : ℕ
ul = 11

abbrev pub ol : ℕ
ol = 12

abbrev pub dl : ℕ
dl = 13

abbrev pub table : ℕ
table = 14

abbrev pub hr : ℕ
hr = 15

abbrev pub li : ℕ
li = 16

abbrev pub tr : ℕ
tr = 17

abbrev pub th : ℕ
th = 18

abbrev pub td : ℕ
td = 19

abbrev pub br : ℕ
br = 20

abbrev pub a : ℕ
a = 21

abbrev pub img : ℕ
img = 22

abbrev pub pre : ℕ
pre = 23

abbrev pub code : ℕ
code = 24

abbrev pub strong : ℕ
strong = 25

abbrev pub b : ℕ
b = 26

abbrev pub em : ℕ
em = 27

abbrev pub i : ℕ
i = 28

abbrev pub thead : ℕ
thead = 29

abbrev pub tbody : ℕ
tbody = 30

-- each name has the number that is called by it
pub numbered :
    map tag_of names
    ≡ article ∷ section ∷ div ∷ p ∷ h1 ∷ h2 ∷ h3 ∷ h4 ∷ h5 ∷ h6 ∷ ul ∷ ol ∷ dl ∷ table ∷ hr ∷ li ∷ tr ∷ th ∷ td ∷ br
    ∷ a ∷ img ∷ pre ∷ code ∷ strong ∷ b ∷ em ∷ i ∷ thead ∷ tbody ∷ []
unfolding names tag_of place same
numbered = refl
