-- Words with forwards for references.
use Rattle.std.proofs.Common.{◌≡◌, ◌≢◌, ℕ, zero, suc, ◌+◌, ◌-◌, ◌<◌, ◌≤◌, Bool, true, false, cond, eqb, List, [], ◌∷◌, ◌++◌, length, take, get_or, refl, sym, ap, subst, ◌∙◌, arith}
use Rattle.std.proofs.lemmas.Bool.{eqb-true, eq-eqb, false_from_ne_true}
use Rattle.std.proofs.lemmas.List.{take_more, length-take-le}
use Rattle.std.specs.Prelude.{Option, Some, None, map, slice_get, option_map, option_to_list, IfSome}
use Rattle.heap_face.specs.declared.layout.Layouts.{Layouts}
use Rattle.heap_face.specs.declared.shape.Shape.{Shape}
use Rattle.heap_face.specs.Heap.{Stored}
use Rattle.heap_face.specs.Collection.{refers_at}
use Rattle.row_heap.specs.Forwards.{forwarded_word, forwarded, copy_of, copies_at, EachHasForward, HasForwards}
use Rattle.row_heap.proofs.RowLemmas.{same_object}

pub length-forwarded : (forwards : List ℕ) (refers : ℕ → Bool) (at : ℕ) (words : List ℕ)
    → length (forwarded forwards refers at words) ≡ length words
length-forwarded forwards refers at [] = refl
length-forwarded forwards refers at (word ∷ words) = ap suc (length-forwarded forwards refers (suc at) words)

forwarded-append : (forwards : List ℕ) (refers : ℕ → Bool) (at : ℕ) (words : List ℕ) (word : ℕ)
    → forwarded forwards refers at (words ++ word ∷ [])
    ≡ forwarded forwards refers at words ++ forwarded_word forwards (refers (at + length words)) word ∷ []
forwarded-append forwards refers at [] word =
    let here : at ≡ at + 0 = omega arith in
    ap (λ (n : ℕ). forwarded_word forwards (refers n) word ∷ []) here
forwarded-append forwards refers at (first ∷ words) word =
    let next : suc at + length words ≡ at + suc (length words) = omega arith in
    ap (λ (list : List ℕ). forwarded_word forwards (refers at) first ∷ list)
    (forwarded-append forwards refers (suc at) words word
    ∙ ap (λ (n : ℕ). forwarded forwards refers (suc at) words ++ forwarded_word forwards (refers n) word ∷ []) next)

pub forwarded_more : (forwards : List ℕ) (refers : ℕ → Bool) (words : List ℕ) (at : ℕ) → at < length words
    → forwarded forwards refers 0 (take (at + 1) words)
    ≡ forwarded forwards refers 0 (take at words) ++ forwarded_word forwards (refers at) (get_or words at 0) ∷ []
forwarded_more forwards refers words at within =
    let long : 0 + length (take at words) ≡ at = omega (arith, length-take-le at words (omega (arith, within))) in
    ap (forwarded forwards refers 0) (take_more words at 0 within)
    ∙ forwarded-append forwards refers 0 (take at words) (get_or words at 0)
    ∙ ap (λ (n : ℕ). forwarded forwards refers 0 (take at words) ++ forwarded_word forwards (refers n) (get_or words at 0) ∷ []) long

-- a word that is no reference or null stays, and another one becomes a forward
pub word_stays : (forwards : List ℕ) (on : Bool) (word : ℕ) → on ≡ false → forwarded_word forwards on word ≡ word
word_stays forwards on word off = ap (λ (b : Bool). forwarded_word forwards b word) off

pub null_stays : (forwards : List ℕ) (on : Bool) (word : ℕ) → word ≡ 0 → forwarded_word forwards on word ≡ word
null_stays forwards false word is = refl
null_stays forwards true word is = ap (λ (b : Bool). cond b word (get_or forwards (word - 1) 0)) (eq-eqb word 0 is)

pub word_moves : (forwards : List ℕ) (on : Bool) (word : ℕ) → on ≡ true → word ≢ 0
    → forwarded_word forwards on word ≡ get_or forwards (word - 1) 0
word_moves forwards on word is some =
    ap (λ (b : Bool). forwarded_word forwards b word) is
    ∙ ap (λ (b : Bool). cond b word (get_or forwards (word - 1) 0)) (false_from_ne_true _ (λ h. some (eqb-true word 0 h)))

-- the copy of an object by the parts of the object
pub copies_is : (layouts : Layouts) (objects : List (Stored ℕ)) (forwards : List ℕ) (place serial : ℕ) (shape : Shape) (lock : ℕ) (contents : List ℕ)
    → option_map (λ (o : Stored ℕ). o.serial) (slice_get objects place) ≡ Some serial
    → option_map (λ (o : Stored ℕ). o.shape) (slice_get objects place) ≡ Some shape
    → option_map (λ (o : Stored ℕ). o.lock) (slice_get objects place) ≡ Some lock
    → option_map (λ (o : Stored ℕ). o.contents) (slice_get objects place) ≡ Some contents
    → record { serial = serial; shape = shape; lock = lock; contents = forwarded forwards (refers_at layouts shape) 0 contents } ∷ []
    ≡ copies_at layouts objects forwards place
copies_is layouts objects forwards place serial shape lock contents s h l c =
    ap (map (copy_of layouts forwards)) (same_object (slice_get objects place) serial shape lock contents s h l c)

pub contents_forward : (layouts : Layouts) (count : ℕ) (found : Option (Stored ℕ)) (shape : Shape) (contents : List ℕ)
    → option_map (λ (o : Stored ℕ). o.shape) found ≡ Some shape → option_map (λ (o : Stored ℕ). o.contents) found ≡ Some contents
    → IfSome found (HasForwards layouts count) → EachHasForward (refers_at layouts shape) count contents
contents_forward layouts count None shape contents s c has = absurd cc
contents_forward layouts count (Some object) shape contents s c has =
    let shapes : object.shape ≡ shape = cc in
    let same : object.contents ≡ contents = cc in
    subst (λ (list : List ℕ). EachHasForward (refers_at layouts shape) count list) same
    (subst (λ (b : Shape). EachHasForward (refers_at layouts b) count object.contents) shapes has)
