-- The members that classes declare, class by class.
use Rattle.std.proofs.Common.{◌≡◌, ℕ, ◌+◌, ◌<◌, ◌≤◌, Bool, true, false, not, List, [], ◌∷◌, ◌++◌, Option, Some, None, length, map, get_or, take, bytes_eq, IsTrue, ap, sym, subst, ◌∙◌, refl, add-one}
use Rattle.std.specs.List.{list_all, IsDistinct}
use Rattle.std.proofs.lemmas.Bool.{false≢true}
use Rattle.std.proofs.lemmas.List.{map-append, take_all}
use Rattle.std.proofs.Math.Seq.{take-suc}
use Rattle.class_graph.proofs.Passing.{and_left, and_right, list_all-get_or}
use Rattle.class_names.specs.declared.signatures.Signature.{Signature}
use Rattle.link_model.specs.ClassFaults.{has_twice}
use Rattle.class_world.specs.declared.class_info.ClassInfo.{ClassInfo}
use Rattle.class_world.specs.Signatures.{Pair, same_pair, field_pairs, method_pairs, has_members_once, SpellsOnce, GivesSignatures, SpellsAll, GivesDeclared}
use Rattle.class_world.specs.declared.signatures.Declared.{Declared}
use Rattle.class_world.proofs.Spelling.{extends_more, still_spells, all_still_spell, spells_more}

abbrev pub fields_in : ClassInfo → List Pair
fields_in info = field_pairs info.origin

abbrev pub methods_in : ClassInfo → List Pair
methods_in info = method_pairs info.origin

-- the members of the first so many classes are spelled
pub record DeclaredSoFar (infos : List ClassInfo) (i : ℕ) (texts : List (List ℕ)) (fields methods : List (List Signature)) : Type 0 where
  pub distinct : IsDistinct bytes_eq texts
  pub fields_are : SpellsAll texts fields (map fields_in (take i infos))
  pub methods_are : SpellsAll texts methods (map methods_in (take i infos))

pub declared_begins : (infos : List ClassInfo) (texts : List (List ℕ)) (fields methods : List (List Signature)) → IsDistinct bytes_eq texts
    → fields ≡ [] → methods ≡ [] → DeclaredSoFar infos 0 texts fields methods
declared_begins infos texts fields methods distinct no_fields no_methods = record {
  distinct = distinct;
  fields_are = subst (λ (r : List (List Signature)). SpellsAll texts r []) (sym no_fields) (record { within = refl; are = refl });
  methods_are = subst (λ (r : List (List Signature)). SpellsAll texts r []) (sym no_methods) (record { within = refl; are = refl });
}

module _ (infos : List ClassInfo) (i : ℕ) (info : ClassInfo) (inside : i < length infos) (is : info ≡ get_or infos i info) where
  taken : {A : Type 0} (f : ClassInfo → A) → map f (take (i + 1) infos) ≡ map f (take i infos) ++ f info ∷ []
  taken f =
      ap (λ (n : ℕ). map f (take n infos)) (add-one i)
      ∙ ap (map f) (take-suc infos i info inside)
      ∙ map-append f (take i infos) (get_or infos i info ∷ [])
      ∙ ap (λ (c : ClassInfo). map f (take i infos) ++ f c ∷ []) (sym is)

  pub declared_goes_on : (texts named more : List (List ℕ)) (fields methods more_fields more_methods : List (List Signature))
      (own_fields own_methods : List Signature) → DeclaredSoFar infos i texts fields methods
      → SpellsOnce texts named (field_pairs info.origin) own_fields → SpellsOnce named more (method_pairs info.origin) own_methods
      → more_fields ≡ fields ++ own_fields ∷ [] → more_methods ≡ methods ++ own_methods ∷ []
      → DeclaredSoFar infos (i + 1) more more_fields more_methods
  declared_goes_on texts named more fields methods more_fields more_methods own_fields own_methods so_far first second adds_fields adds_methods =
      let grows = extends_more texts named more first.grows second.grows in
      let distinct = second.spells.distinct in
      record {
        distinct = distinct;
        fields_are = subst (λ (r : List (List Signature)). SpellsAll more r (map fields_in (take (i + 1) infos))) (sym adds_fields)
            (subst (SpellsAll more (fields ++ own_fields ∷ [])) (sym (taken fields_in))
            (spells_more more fields (map fields_in (take i infos)) own_fields (field_pairs info.origin)
            (all_still_spell texts more grows fields (map fields_in (take i infos)) so_far.fields_are)
            (still_spells named more second.grows distinct own_fields (field_pairs info.origin) first.spells)));
        methods_are = subst (λ (r : List (List Signature)). SpellsAll more r (map methods_in (take (i + 1) infos))) (sym adds_methods)
            (subst (SpellsAll more (methods ++ own_methods ∷ [])) (sym (taken methods_in))
            (spells_more more methods (map methods_in (take i infos)) own_methods (method_pairs info.origin)
            (all_still_spell texts more grows methods (map methods_in (take i infos)) so_far.methods_are) second.spells));
      }

  never_both : (b : Bool) → not b ≡ true → b ≡ true → ⊥
  never_both true differs holds = false≢true differs
  never_both false differs holds = false≢true holds

  pub fields_once : IsTrue (list_all has_members_once infos) → has_twice same_pair (field_pairs info.origin) ≡ true → ⊥
  fields_once once twice =
      let here = subst (λ (c : ClassInfo). IsTrue (has_members_once c)) (sym is) (list_all-get_or has_members_once infos i info once inside) in
      never_both (has_twice same_pair (field_pairs info.origin))
      (and_left (not (has_twice same_pair (field_pairs info.origin))) (not (has_twice same_pair (method_pairs info.origin))) here) twice

  pub methods_once : IsTrue (list_all has_members_once infos) → has_twice same_pair (method_pairs info.origin) ≡ true → ⊥
  methods_once once twice =
      let here = subst (λ (c : ClassInfo). IsTrue (has_members_once c)) (sym is) (list_all-get_or has_members_once infos i info once inside) in
      never_both (has_twice same_pair (method_pairs info.origin))
      (and_right (not (has_twice same_pair (field_pairs info.origin))) (not (has_twice same_pair (method_pairs info.origin))) here) twice

pub declared_ends : (infos : List ClassInfo) (i : ℕ) (texts : List (List ℕ)) (declared : Declared) → length infos ≤ i
    → DeclaredSoFar infos i texts declared.fields.items declared.methods.items → GivesDeclared texts infos declared
declared_ends infos i texts declared end so_far =
    let whole = take_all i infos end in
    record {
      distinct = so_far.distinct;
      fields = subst (λ (l : List ClassInfo). SpellsAll texts declared.fields.items (map fields_in l)) whole so_far.fields_are;
      methods = subst (λ (l : List ClassInfo). SpellsAll texts declared.methods.items (map methods_in l)) whole so_far.methods_are;
    }

-- ---- what a call gives

pub gives_some : (texts more : List (List ℕ)) (pairs : List Pair) (given : Option (List Signature)) (rows : List Signature)
    → GivesSignatures texts more pairs given → given ≡ Some rows → SpellsOnce texts more pairs rows
gives_some texts more pairs given rows gives is = subst (GivesSignatures texts more pairs) is gives

pub gives_none : (texts more : List (List ℕ)) (pairs : List Pair) (given : Option (List Signature))
    → GivesSignatures texts more pairs given → given ≡ None → has_twice same_pair pairs ≡ true
gives_none texts more pairs given gives is = subst (GivesSignatures texts more pairs) is gives
