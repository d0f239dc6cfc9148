-- Tables of words, one entry and one class more.
use Rattle.std.proofs.Common.{◌≡◌, ◌≢◌, ℕ, ◌+◌, ◌<◌, ◌≤◌, ◌==◌, ◌&&◌, Bool, true, false, List, [], ◌∷◌, ◌++◌, Option, Some, None, length, map, take, refl, sym, ap, subst, ◌∙◌, inl, inr, arith}
use Rattle.std.specs.Prelude.{if◌then◌else◌, replicate, slice_get, slice_set}
use Rattle.std.proofs.lemmas.Bool.{and_from, false_from_ne_true, both_ways}
use Rattle.std.proofs.lemmas.Bool.Decides.{Decides-eqb}
use Rattle.std.proofs.lemmas.List.{length-append, length-replicate, length-set, length-take, get_or-replicate, take_all, take_more}
use Rattle.std.proofs.lemmas.Option.{get_or_from_slice_get, slice_get_within}
use Rattle.world_model.specs.World.{World, Class}
use Rattle.jv_types.specs.Sequence.{Sequence}
use Rattle.jv_types.specs.declared.number.ClassNo.{ClassNo}
use Rattle.class_world.specs.World.{class_of_origin}
use Rattle.class_world.specs.declared.class_info.FieldPlace.{FieldPlace}
use Rattle.class_world.specs.declared.class_info.Origin.{Origin}
use Rattle.class_world.specs.declared.class_info.Origin.TheVariants.{Boot, Program}
use Rattle.static_fields.specs.Statics.{same_place}
use Rattle.look_up_cache.specs.Targets.{pool_in}
use Rattle.look_up_cache.specs.Words.{Words, IsLastOf, AreWordsOf, AreRows}
use Rattle.look_up_cache.proofs.Last.{slice_get-more, slice_get-set, last_kept, last_new}

-- ---- one entry more

kept_more : (layout : List FieldPlace) (next place : FieldPlace) (entry : Option ℕ) → same_place place next ≡ false → IsLastOf layout place entry
    → IsLastOf (layout ++ next ∷ []) place entry
kept_more layout next place None other none = λ word there at. elim (slice_get-more layout next word there at) [
  | inl old ↦ none word there old
  | inr new ↦ ap (same_place place) new.1 ∙ other
]
kept_more layout next place (Some word) other last = last_kept (same_place place) layout next word other last

differs : (a b : ℕ) → a ≢ b → (a == b) ≡ false
differs a b ne = false_from_ne_true (a == b) (λ h. ne ((Decides-eqb a b).0 h))

and_no : (b : Bool) → (b && false) ≡ false
and_no true = refl
and_no false = refl

words_added : (class : ClassNo) (count : ℕ) (layout : List FieldPlace) (row : List (Option ℕ)) (place : FieldPlace) → AreWordsOf class count layout row
    → (b : Bool) → (place.class.0 == class.0) ≡ b
    → AreWordsOf class count (layout ++ place ∷ []) (if b then slice_set row place.index (Some (length layout)) else row)
words_added class count layout row place words false other = record {
  length_is = words.length_is;
  each = λ index entry at.
      (let no : (class.0 == place.class.0) ≡ false = differs class.0 place.class.0 (λ e. both_ways (place.class.0 == class.0) other ((Decides-eqb place.class.0 class.0).1 (sym e))) in
      kept_more layout place (record { class = class; index = index }) entry (ap (λ (b : Bool). b && (index == place.index)) no) (words.each index entry at));
}
words_added class count layout row place words true same = record {
  length_is = length-set row place.index (Some (length layout)) ∙ words.length_is;
  each = λ index entry at. elim (slice_get-set row place.index (Some (length layout)) index entry at) [
    | inl new ↦
        let own : same_place (record { class = class; index = index }) place ≡ true =
        and_from (class.0 == place.class.0) (index == place.index) ((Decides-eqb class.0 place.class.0).1 (sym ((Decides-eqb place.class.0 class.0).0 same))) ((Decides-eqb index place.index).1 new.0) in
        subst (IsLastOf (layout ++ place ∷ []) (record { class = class; index = index })) (sym new.1)
        (last_new (same_place (record { class = class; index = index })) layout place own)
    | inr old ↦ kept_more layout place (record { class = class; index = index }) entry
        (ap (λ (b : Bool). (class.0 == place.class.0) && b) (differs index place.index old.0) ∙ and_no (class.0 == place.class.0)) (words.each index entry old.1)
  ];
}

pub words_begin : (class : ClassNo) (count : ℕ) (layout : List FieldPlace) (row : List (Option ℕ)) → row ≡ replicate count None
    → AreWordsOf class count (take 0 layout) row
words_begin class count layout row is = record {
  length_is = ap length is ∙ length-replicate count None;
  each = λ index entry at.
      (let there : slice_get (replicate count None) index ≡ Some entry = ap (λ (r : List (Option ℕ)). slice_get r index) (sym is) ∙ at in
      let within = slice_get_within (replicate count None) index entry there in
      let inside : index < count = omega (arith, within, length-replicate count (let none : Option ℕ = None in none)) in
      let none : entry ≡ None = sym (get_or_from_slice_get (replicate count None) index entry None there) ∙ get_or-replicate count index None None inside in
      subst (IsLastOf [] (record { class = class; index = index })) (sym none) (λ word other here. absurd cc));
}

pub words_more : (class : ClassNo) (count : ℕ) (layout : List FieldPlace) (row new : List (Option ℕ)) (word : ℕ) (place : FieldPlace)
    → slice_get layout word ≡ Some place → new ≡ (if place.class.0 == class.0 then slice_set row place.index (Some word) else row)
    → AreWordsOf class count (take word layout) row → AreWordsOf class count (take (word + 1) layout) new
words_more class count layout row new word place at is words =
    let inside = slice_get_within layout word place at in
    let longer : take (word + 1) layout ≡ take word layout ++ place ∷ [] =
    take_more layout word place inside ∙ ap (λ (p : FieldPlace). take word layout ++ p ∷ []) (get_or_from_slice_get layout word place place at) in
    let long : length (take word layout) ≡ word = omega (arith, length-take word layout, inside) in
    subst (λ (l : List FieldPlace). AreWordsOf class count l new) (sym longer)
    (subst (AreWordsOf class count (take word layout ++ place ∷ []))
    (ap (λ (n : ℕ). if place.class.0 == class.0 then slice_set row place.index (Some n) else row) long ∙ sym is)
    (words_added class count (take word layout) row place words (place.class.0 == class.0) refl))

pub words_end : (class : ClassNo) (count : ℕ) (layout : List FieldPlace) (row : List (Option ℕ)) (word : ℕ) → length layout ≤ word
    → AreWordsOf class count (take word layout) row → AreWordsOf class count layout row
words_end class count layout row word past words = subst (λ (l : List FieldPlace). AreWordsOf class count l row) (take_all word layout past) words

-- ---- one class more

pub record RowsSoFar (world : World) (layouts : List (Sequence FieldPlace)) (rows : Words) (i : ℕ) : Type 0 where
  pub count : length rows ≡ i
  pub each : (class : ClassNo) (c : Class) (layout : Sequence FieldPlace) (row : List (Option ℕ))
      → slice_get world.classes class.0 ≡ Some c → slice_get layouts class.0 ≡ Some layout → slice_get rows class.0 ≡ Some row
      → AreWordsOf class (length c.fields) layout.items row

pub rows_begin : (world : World) (layouts : List (Sequence FieldPlace)) (rows : List (Sequence (Option ℕ))) → rows ≡ []
    → RowsSoFar world layouts (map (λ (row : Sequence (Option ℕ)). row.items) rows) 0
rows_begin world layouts rows none = record {
  count = ap (λ (r : List (Sequence (Option ℕ))). length (map (λ (row : Sequence (Option ℕ)). row.items) r)) none;
  each = λ class c layout row at there row_at. absurd (let no = ap (λ (r : List (Sequence (Option ℕ))). slice_get (map (λ (row : Sequence (Option ℕ)). row.items) r) class.0) none in cc);
}

pub rows_more : (world : World) (layouts : List (Sequence FieldPlace)) (rows : Words) (i : ℕ) (c : Class) (layout : Sequence FieldPlace) (row : List (Option ℕ))
    → slice_get world.classes i ≡ Some c → slice_get layouts i ≡ Some layout → AreWordsOf (record { 0 = i }) (length c.fields) layout.items row
    → RowsSoFar world layouts rows i → RowsSoFar world layouts (rows ++ row ∷ []) (i + 1)
rows_more world layouts rows i c layout row at there words so_far = record {
  count = omega (arith, so_far.count, length-append rows (row ∷ []));
  each = λ class c' layout' row' at' there' row_at. elim (slice_get-more rows row class.0 row' row_at) [
    | inl old ↦ so_far.each class c' layout' row' at' there' old
    | inr new ↦
        let number : class.0 ≡ i = new.0 ∙ so_far.count in
        let same : class ≡ record { 0 = i } = λ k. record { 0 = number k } in
        let classes : Some c ≡ Some c' = sym at ∙ ap (slice_get world.classes) (sym number) ∙ at' in
        let one : c ≡ c' = cc in
        let layouts_are : Some layout ≡ Some layout' = sym there ∙ ap (slice_get layouts) (sym number) ∙ there' in
        let other : layout ≡ layout' = cc in
        subst (λ (r : List (Option ℕ)). AreWordsOf class (length c'.fields) layout'.items r) (sym new.1)
        (subst (λ (n : ClassNo). AreWordsOf n (length c'.fields) layout'.items row) (sym same)
        (subst (λ (l : Sequence FieldPlace). AreWordsOf (record { 0 = i }) (length c'.fields) l.items row) other
        (subst (λ (k : Class). AreWordsOf (record { 0 = i }) (length k.fields) layout.items row) one words)))
  ];
}

pub rows_all : (world : World) (layouts : List (Sequence FieldPlace)) (rows : Words) (i : ℕ) → length world.classes ≤ i
    → RowsSoFar world layouts rows i → AreRows world layouts rows
rows_all world layouts rows i all so_far = record { count = omega (arith, all, so_far.count); each = so_far.each }

-- ---- where a class comes from

pub fields_are : (names : List (List ℕ)) (origin : Origin) → (class_of_origin [] origin).fields ≡ (class_of_origin names origin).fields
fields_are names (Boot class) = refl
fields_are names (Program loaded) = refl

pub pool_is : (names : List (List ℕ)) (origin : Origin) → pool_in (class_of_origin [] origin).loaded ≡ pool_in (class_of_origin names origin).loaded
pool_is names (Boot class) = refl
pool_is names (Program loaded) = refl
