-- Signatures of methods, one more, and one class more.
use Rattle.std.proofs.Common.{◌≡◌, ℕ, zero, suc, ◌+◌, ◌<◌, ◌≤◌, Bool, true, false, not, if◌then◌else◌, List, [], ◌∷◌, ◌++◌, Option, Some, None, inl, inr, length, map, take, slice_get, get_or, option_map, option_and_then, ap, sym, subst, ◌∙◌, refl, append_assoc, true≢false, arith}
use Rattle.std.specs.List.{list_any, IsDistinct}
use Rattle.std.proofs.lemmas.List.{append-nil, length-append, length-map, map-append, take_all, take_more}
use Rattle.std.proofs.lemmas.Option.{slice_get-map, slice_get_within, get_or_from_slice_get}
use Rattle.world_model.specs.World.{World, Class, Method}
use Rattle.world_model.specs.LookUp.{Found}
use Rattle.class_names.specs.declared.signatures.Signature.{Signature}
use Rattle.class_world.specs.World.{method_signature, class_of_origin}
use Rattle.class_world.specs.declared.class_info.Origin.{Origin}
use Rattle.class_world.specs.Signatures.{Pair, same_pair, method_pairs, Spells}
use Rattle.class_world.proofs.Filling.{methods_are_called}
use Rattle.class_methods.specs.Signatures.{AreSignatures}
use Rattle.class_methods.specs.Filling.{GivesNumber, HaveNumbers, AddsMethods, AddsClass}
use Rattle.class_methods.specs.declared.filling.Filling.{Filling}
use Rattle.class_methods.proofs.Numbering.{still_there, apart_more}

-- ---- numbers of more pairs

some_pair : Pair → Option Pair
some_pair p = Some p

row_still : (pairs rest : List Pair) (row : List ℕ) (own : List Pair) → map (slice_get pairs) row ≡ map (λ (p : Pair). Some p) own
    → map (slice_get (pairs ++ rest)) row ≡ map (λ (p : Pair). Some p) own
row_still pairs rest [] own is = is
row_still pairs rest (n ∷ row) [] is = absurd cc
row_still pairs rest (n ∷ row) (p ∷ own) is =
    let first : slice_get pairs n ≡ Some p = cc in
    let others : map (slice_get pairs) row ≡ map (λ (q : Pair). Some q) own = cc in
    let here = still_there pairs rest n p first in
    let later = row_still pairs rest row own others in
    λ i. here i ∷ later i

rows_still : (pairs rest : List Pair) (rows : List (List ℕ)) (all : List (List Pair))
    → map (map (slice_get pairs)) rows ≡ map (map (λ (p : Pair). Some p)) all
    → map (map (slice_get (pairs ++ rest))) rows ≡ map (map (λ (p : Pair). Some p)) all
rows_still pairs rest [] all is = is
rows_still pairs rest (row ∷ rows) [] is = absurd cc
rows_still pairs rest (row ∷ rows) (own ∷ all) is =
    let first : map (slice_get pairs) row ≡ map (λ (p : Pair). Some p) own = cc in
    let others : map (map (slice_get pairs)) rows ≡ map (map (λ (p : Pair). Some p)) all = cc in
    let here = row_still pairs rest row own first in
    let later = rows_still pairs rest rows all others in
    λ i. here i ∷ later i

row_more : (pairs : List Pair) (row : List ℕ) (own : List Pair) (n : ℕ) (pair : Pair)
    → map (slice_get pairs) row ≡ map (λ (p : Pair). Some p) own → slice_get pairs n ≡ Some pair
    → map (slice_get pairs) (row ++ n ∷ []) ≡ map (λ (p : Pair). Some p) (own ++ pair ∷ [])
row_more pairs row own n pair is at =
    map-append (slice_get pairs) row (n ∷ []) ∙ (λ i. is i ++ at i ∷ [])
    ∙ sym (map-append (λ (p : Pair). Some p) own (pair ∷ []))

-- ---- no methods

pub have_none : (filling : Filling) → filling.texts ≡ [] → filling.signatures ≡ [] → HaveNumbers filling [] [] [] []
unfolding IsDistinct
have_none filling texts signatures = record {
  pairs = [];
  spells = subst (λ (t : List (List ℕ)). Spells t filling.signatures []) (sym texts)
      (subst (λ (r : List Signature). Spells [] r []) (sym signatures) (record { distinct = tt; within = refl; are = refl }));
  apart = λ s t pair at other. absurd (none s pair at);
  rows_are = refl;
  row_is = refl;
}
  where
    none : (s : ℕ) (pair : Pair) → slice_get [] s ≡ Some pair → ⊥
    none s pair at = cc

-- ---- one method more

module _ (old new : Filling) (row longer : List ℕ) (pair : Pair) (n : ℕ)
    (gives : GivesNumber old.texts new.texts old.signatures new.signatures pair n)
    (longer_is : longer ≡ row ++ n ∷ []) where
  not_any : (b : Bool) → true ≡ not b → b ≡ false
  not_any true is = absurd (true≢false is)
  not_any false is = refl

  module _ (rows : List (List ℕ)) (all : List (List Pair)) (own : List Pair) (have : HaveNumbers old rows all row own) where
    abbrev after : Bool → List Pair
    after b = if b then have.pairs ++ pair ∷ [] else have.pairs

    by : (b : Bool) → Spells new.texts new.signatures (after b) → slice_get (after b) n ≡ Some pair
        → b ≡ not (list_any (λ p. same_pair p pair) have.pairs)
        → HaveNumbers new rows all (row ++ n ∷ []) (own ++ pair ∷ [])
    by false spells at news = record {
      pairs = have.pairs;
      spells = spells;
      apart = have.apart;
      rows_are = have.rows_are;
      row_is = row_more have.pairs row own n pair have.row_is at;
    }
    by true spells at news = record {
      pairs = have.pairs ++ pair ∷ [];
      spells = spells;
      apart = apart_more have.pairs pair have.apart (not_any (list_any (λ p. same_pair p pair) have.pairs) news);
      rows_are = rows_still have.pairs (pair ∷ []) rows all have.rows_are;
      row_is = row_more (have.pairs ++ pair ∷ []) row own n pair (row_still have.pairs (pair ∷ []) row own have.row_is) at;
    }

  pub adds_method : AddsMethods old new row longer (pair ∷ [])
  adds_method = λ rows all own have.
      subst (λ (l : List ℕ). HaveNumbers new rows all l (own ++ pair ∷ [])) (sym longer_is)
      (by rows all own have gives.is_new (gives.adds.spells have.pairs have.spells) (gives.at have.pairs have.spells)
      (gives.adds.news have.pairs have.spells))

-- ---- the methods of a class, one after the other

pub adds_none : (filling : Filling) (row : List ℕ) → AddsMethods filling filling row row []
adds_none filling row rows all own have =
    subst (λ (l : List Pair). HaveNumbers filling rows all row l) (sym (append-nil own)) have

pub adds_both : (one two three : Filling) (first second third : List ℕ) (some more : List Pair)
    → AddsMethods one two first second some → AddsMethods two three second third more
    → AddsMethods one three first third (some ++ more)
adds_both one two three first second third some more begins goes_on rows all own have =
    subst (λ (l : List Pair). HaveNumbers three rows all third l) (append_assoc own some more)
    (goes_on rows all (own ++ some) (begins rows all own have))

module _ {M : Type 0} (pair_of : M → Pair) (members : List M) (start : Filling) (row : List ℕ) where
  pub adds_next : (i : ℕ) (member : M) (now next : Filling) (second third : List ℕ) → i < length members
      → member ≡ get_or members i member
      → AddsMethods start now row second (map pair_of (take i members))
      → (pair : Pair) → pair ≡ pair_of member → AddsMethods now next second third (pair ∷ [])
      → AddsMethods start next row third (map pair_of (take (i + 1) members))
  adds_next i member now next second third inside is so_far pair is_pair adds =
      let taken : map pair_of (take i members) ++ pair ∷ [] ≡ map pair_of (take (i + 1) members) =
      ap (λ (p : Pair). map pair_of (take i members) ++ p ∷ []) is_pair
      ∙ sym (map-append pair_of (take i members) (member ∷ []))
      ∙ ap (map pair_of) (ap (λ (m : M). take i members ++ m ∷ []) is ∙ sym (take_more members i member inside)) in
      subst (λ (l : List Pair). AddsMethods start next row third l) taken
      (adds_both start now next row second third (map pair_of (take i members)) (pair ∷ []) so_far adds)

  pub adds_all : (i : ℕ) (last : Filling) (longer : List ℕ) → length members ≤ i
      → AddsMethods start last row longer (map pair_of (take i members))
      → AddsMethods start last row longer (map pair_of members)
  adds_all i last longer end so_far =
      subst (λ (l : List M). AddsMethods start last row longer (map pair_of l)) (take_all i members end) so_far

-- ---- one class more

pub adds_class : (old new : Filling) (rows longer : List (List ℕ)) (empty row : List ℕ) (own : List Pair)
    → empty ≡ [] → longer ≡ rows ++ row ∷ [] → AddsMethods old new empty row own → AddsClass old new rows longer own
adds_class old new rows longer empty row own none is adds all have =
    subst (λ (l : List (List ℕ)). HaveNumbers new l (all ++ own ∷ []) [] []) (sym is) (ends after)
  where
    begun : HaveNumbers old rows all empty []
    begun = subst (λ (l : List ℕ). HaveNumbers old rows all l []) (sym none) have

    after : HaveNumbers new rows all row own
    after = adds rows all [] begun

    ends : HaveNumbers new rows all row own → HaveNumbers new (rows ++ row ∷ []) (all ++ own ∷ []) [] []
    ends have = record {
      pairs = have.pairs;
      spells = have.spells;
      apart = have.apart;
      rows_are = map-append (map (slice_get have.pairs)) rows (row ∷ [])
          ∙ (λ i. have.rows_are i ++ have.row_is i ∷ [])
          ∙ sym (map-append (map (λ (p : Pair). Some p)) all (own ∷ []));
      row_is = refl;
    }

-- ---- all classes

abbrev pub calls_of : Class → List Pair
calls_of class = map method_signature class.methods

called_there : (index : ℕ) (class : Option Class)
    → option_and_then (λ (own : List Pair). slice_get own index) (option_map calls_of class)
    ≡ option_map (λ (f : Found Method). method_signature f.member)
    (option_and_then (λ (c : Class). option_map (λ (m : Method). record { class = c.name; member = m }) (slice_get c.methods index)) class)
called_there index None = refl
called_there index (Some class) =
    slice_get-map method_signature class.methods index ∙ by (slice_get class.methods index)
  where
    by : (m : Option Method) → option_map method_signature m
        ≡ option_map (λ (f : Found Method). method_signature f.member) (option_map (λ (m : Method). record { class = class.name; member = m }) m)
    by None = refl
    by (Some m) = refl

row_there : (pairs : List Pair) (index : ℕ) (row : Option (List ℕ)) (own : Option (List Pair))
    → option_map (map (slice_get pairs)) row ≡ option_map (map (λ (p : Pair). Some p)) own
    → option_map (slice_get pairs) (option_and_then (λ (r : List ℕ). slice_get r index) row)
    ≡ option_map (λ (p : Pair). Some p) (option_and_then (λ (o : List Pair). slice_get o index) own)
row_there pairs index None None is = refl
row_there pairs index None (Some own) is = absurd cc
row_there pairs index (Some row) None is = absurd cc
row_there pairs index (Some row) (Some own) is =
    let same : map (slice_get pairs) row ≡ map (λ (p : Pair). Some p) own = cc in
    sym (slice_get-map (slice_get pairs) row index)
    ∙ ap (λ (l : List (Option Pair)). slice_get l index) same
    ∙ slice_get-map (λ (p : Pair). Some p) own index

pub next_class : (world : World) (names : List (List ℕ)) (i : ℕ) (class : Class) (origin : Origin) (old new : Filling)
    (rows longer : List (List ℕ)) → slice_get world.classes i ≡ Some class → class_of_origin names origin ≡ class
    → AddsClass old new rows longer (method_pairs origin)
    → HaveNumbers old rows (take i (map calls_of world.classes)) [] []
    → HaveNumbers new longer (take (i + 1) (map calls_of world.classes)) [] []
next_class world names i class origin old new rows longer at is adds have =
    let all = map calls_of world.classes in
    let own = method_pairs origin in
    let own_is : own ≡ calls_of class = sym (methods_are_called names origin) ∙ ap calls_of is in
    let there : slice_get all i ≡ Some own =
    slice_get-map calls_of world.classes i ∙ ap (option_map calls_of) at ∙ ap Some (sym own_is) in
    let taken : take i all ++ own ∷ [] ≡ take (i + 1) all =
    ap (λ (o : List Pair). take i all ++ o ∷ []) (sym (get_or_from_slice_get all i own own there))
    ∙ sym (take_more all i own (slice_get_within all i own there)) in
    subst (λ (l : List (List Pair)). HaveNumbers new longer l [] []) taken (adds (take i all) have)

-- each method has a number
counts_are : (pairs : List Pair) (rows : List (List ℕ)) (classes : List Class)
    → map (map (slice_get pairs)) rows ≡ map (map (λ (p : Pair). Some p)) (map calls_of classes)
    → map length rows ≡ map (λ (c : Class). length c.methods) classes
counts_are pairs [] [] is = refl
counts_are pairs [] (c ∷ classes) is = absurd cc
counts_are pairs (row ∷ rows) [] is = absurd cc
counts_are pairs (row ∷ rows) (c ∷ classes) is =
    let first : map (slice_get pairs) row ≡ map (λ (p : Pair). Some p) (calls_of c) = cc in
    let others : map (map (slice_get pairs)) rows ≡ map (map (λ (p : Pair). Some p)) (map calls_of classes) = cc in
    let here : length row ≡ length c.methods =
    sym (length-map row (slice_get pairs)) ∙ ap (λ (l : List (Option Pair)). length l) first
    ∙ length-map (calls_of c) (λ (p : Pair). Some p) ∙ length-map c.methods method_signature in
    let later = counts_are pairs rows classes others in
    λ i. here i ∷ later i

pub are_signatures : (world : World) (filling : Filling) (rows : List (List ℕ)) (all : List (List Pair)) → all ≡ map calls_of world.classes
    → HaveNumbers filling rows all [] [] → AreSignatures world rows
are_signatures world filling rows all is have = record {
  counts = counts_are have.pairs rows world.classes (have.rows_are ∙ ap (map (map (λ (p : Pair). Some p))) is);
  pairs = have.pairs;
  apart = have.apart;
  each_method = λ m.
      row_there have.pairs m.index (slice_get rows m.class.0) (slice_get all m.class.0)
      (sym (slice_get-map (map (slice_get have.pairs)) rows m.class.0)
      ∙ ap (λ (l : List (List (Option Pair))). slice_get l m.class.0) have.rows_are
      ∙ slice_get-map (map (λ (p : Pair). Some p)) all m.class.0)
      ∙ ap (λ (l : List (List Pair)). option_map (λ (p : Pair). Some p) (option_and_then (λ (o : List Pair). slice_get o m.index) (slice_get l m.class.0))) is
      ∙ ap (λ (o : Option (List Pair)). option_map (λ (p : Pair). Some p) (option_and_then (λ (own : List Pair). slice_get own m.index) o))
      (slice_get-map calls_of world.classes m.class.0)
      ∙ ap (option_map (λ (p : Pair). Some p)) (called_there m.index (slice_get world.classes m.class.0));
}
