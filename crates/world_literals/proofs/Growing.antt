-- Texts that are added one after another are each there once.
use Rattle.std.proofs.Common.{◌≡◌, ℕ, ◌+◌, ◌<◌, ◌≤◌, Bool, true, false, ◌||◌, if◌then◌else◌, List, [], ◌∷◌, ◌++◌, Option, Some, None, length, map, drop, slice_get, get_or, bytes_eq, flat_map, filter_map, option_to_list, ap, sym, ◌∙◌, refl, append_assoc}
use Rattle.std.specs.List.{list_any, cons_option}
use Rattle.std.proofs.lemmas.List.{append-nil, at_drop_more, at_drop_all}
use Rattle.std.proofs.lemmas.List.Folds.{list_any-append}
use Rattle.std.proofs.lemmas.Option.{slice_get_within, get_or_from_slice_get}
use Rattle.jv_model.specs.ClassData as model
use Rattle.jv_types.specs.ClassData.{const_of, pool_of}
use Rattle.jv_types.specs.declared.class_data.Const.{Const}
use Rattle.world_model.specs.World.{World, Class}
use Rattle.world_model.specs.Supertypes.{each_once}
use Rattle.class_names.specs.Distinct.{with_item}
use Rattle.class_world.specs.World.{class_of_origin}
use Rattle.class_world.specs.declared.class_info.Origin.{Origin}
use Rattle.class_world.specs.declared.class_info.Origin.TheVariants.{Boot, Program}
use Rattle.world_literals.specs.Literals.{string_in, class_strings, origin_strings, world_strings, literals_of}
use Rattle.world_literals.specs.Growing.{with_all}

with_all-append : (texts xs ys : List (List ℕ)) → with_all texts (xs ++ ys) ≡ with_all (with_all texts xs) ys
with_all-append texts [] ys = refl
with_all-append texts (x ∷ xs) ys = with_all-append (with_item bytes_eq texts x) xs ys

with_all-option : (texts : List (List ℕ)) (o : Option (List ℕ)) (rest : List (List ℕ))
    → with_all texts (cons_option o rest) ≡ with_all (with_all texts (option_to_list o)) rest
with_all-option texts None rest = refl
with_all-option texts (Some x) rest = refl

-- ---- a pool, one entry more

abbrev strings_of : List model.Const → List Const → List (List ℕ)
strings_of pool entries = filter_map (string_in pool) (map const_of entries)

pub pool_next : (pool : List Const) (i : ℕ) (entry : Const) (old new whole : List (List ℕ)) → i < length pool → entry ≡ get_or pool i entry
    → new ≡ with_all old (option_to_list (string_in (pool_of pool) (const_of entry)))
    → with_all old (strings_of (pool_of pool) (drop i pool)) ≡ whole
    → with_all new (strings_of (pool_of pool) (drop (i + 1) pool)) ≡ whole
pool_next pool i entry old new whole inside here is so_far =
    let p = pool_of pool in
    let rest = strings_of p (drop (i + 1) pool) in
    ap (λ (t : List (List ℕ)). with_all t rest) is ∙ sym (with_all-option old (string_in p (const_of entry)) rest)
    ∙ ap (λ (e : Const). with_all old (strings_of p (e ∷ drop (i + 1) pool))) here
    ∙ sym (at_drop_more (λ (l : List Const). with_all old (strings_of p l)) pool i entry inside)
    ∙ so_far

pub pool_all : (pool : List Const) (i : ℕ) (last whole : List (List ℕ)) → length pool ≤ i
    → with_all last (strings_of (pool_of pool) (drop i pool)) ≡ whole → last ≡ whole
pool_all pool i last whole past so_far =
    sym (at_drop_all (λ (l : List Const). with_all last (strings_of (pool_of pool) l)) pool i past) ∙ so_far

-- ---- a world, one class more

pub same_strings : (names : List (List ℕ)) (origin : Origin) → origin_strings origin ≡ class_strings (class_of_origin names origin)
same_strings names (Boot class) = refl
same_strings names (Program loaded) = refl

pub class_next : (classes : List Class) (i : ℕ) (class : Class) (own old new whole : List (List ℕ)) → slice_get classes i ≡ Some class
    → own ≡ class_strings class → new ≡ with_all old own
    → with_all old (flat_map class_strings (drop i classes)) ≡ whole
    → with_all new (flat_map class_strings (drop (i + 1) classes)) ≡ whole
class_next classes i class own old new whole at is_own is so_far =
    let rest = flat_map class_strings (drop (i + 1) classes) in
    ap (λ (t : List (List ℕ)). with_all t rest) (is ∙ ap (with_all old) is_own) ∙ sym (with_all-append old (class_strings class) rest)
    ∙ ap (λ (c : Class). with_all old (flat_map class_strings (c ∷ drop (i + 1) classes))) (sym (get_or_from_slice_get classes i class class at))
    ∙ sym (at_drop_more (λ (l : List Class). with_all old (flat_map class_strings l)) classes i class (slice_get_within classes i class at))
    ∙ so_far

pub class_all : (classes : List Class) (i : ℕ) (last whole : List (List ℕ)) → length classes ≤ i
    → with_all last (flat_map class_strings (drop i classes)) ≡ whole → last ≡ whole
class_all classes i last whole past so_far =
    sym (at_drop_all (λ (l : List Class). with_all last (flat_map class_strings l)) classes i past) ∙ so_far

-- ---- each where it first stands

abbrev SameTexts : List (List ℕ) → List (List ℕ) → Type 0
SameTexts seen texts = (text : List ℕ) → list_any (bytes_eq text) seen ≡ list_any (bytes_eq text) texts

or_turned : (a b : Bool) → (a || b) ≡ (b || (a || false))
or_turned true true = refl
or_turned true false = refl
or_turned false true = refl
or_turned false false = refl

one_more : (seen texts : List (List ℕ)) (x : List ℕ) → SameTexts seen texts → SameTexts (x ∷ seen) (texts ++ x ∷ [])
one_more seen texts x same text =
    or_turned (bytes_eq text x) (list_any (bytes_eq text) seen)
    ∙ ap (λ (b : Bool). b || (bytes_eq text x || false)) (same text)
    ∙ sym (list_any-append (bytes_eq text) texts (x ∷ []))

added_once : (seen texts xs : List (List ℕ)) → SameTexts seen texts → with_all texts xs ≡ texts ++ each_once seen xs
unfolding each_once
added_once seen texts [] same = sym (append-nil texts)
added_once seen texts (x ∷ xs) same =
    ap (λ (b : Bool). with_all (if b then texts else texts ++ x ∷ []) xs) (sym (same x))
    ∙ by (list_any (bytes_eq x) seen) (added_once seen texts xs same)
    (added_once (x ∷ seen) (texts ++ x ∷ []) xs (one_more seen texts x same))
  where
    by : (b : Bool) → with_all texts xs ≡ texts ++ each_once seen xs
        → with_all (texts ++ x ∷ []) xs ≡ (texts ++ x ∷ []) ++ each_once (x ∷ seen) xs
        → with_all (if b then texts else texts ++ x ∷ []) xs
        ≡ texts ++ (if b then each_once seen xs else x ∷ each_once (x ∷ seen) xs)
    by true known added = known
    by false known added = added ∙ append_assoc texts (x ∷ []) (each_once (x ∷ seen) xs)

pub are_literals : (world : World) (texts : List (List ℕ)) → texts ≡ with_all [] (world_strings world) → texts ≡ literals_of world
are_literals world texts is = is ∙ added_once [] [] (world_strings world) (λ text. refl)

drop_none : {A : Type 0} (xs : List A) → drop 0 xs ≡ xs
drop_none [] = refl
drop_none (x ∷ xs) = refl

pub begun : (world : World) (texts : List (List ℕ)) → texts ≡ []
    → with_all texts (flat_map class_strings (drop 0 world.classes)) ≡ with_all [] (world_strings world)
begun world texts is =
    ap (λ (t : List (List ℕ)). with_all t (flat_map class_strings (drop 0 world.classes))) is
    ∙ ap (λ (l : List Class). with_all [] (flat_map class_strings l)) (drop_none world.classes)
