-- Boot classes stand first in a program's world, so what is asked of them computes there.
use Rattle.std.proofs.Common.{◌≡◌, ℕ, List, [], ◌∷◌, Bool, true, refl, ap, ◌∙◌, inl, inr}
use Rattle.std.specs.Prelude.{◌&&◌, not, bytes_eq}
use Rattle.std.specs.List.{list_all, list_any}
use Rattle.std.proofs.lemmas.Bool.{and_parts, or_cases, not-true}
use Rattle.jv_model.specs.LoadedClass.{LoadedClass}
use Rattle.world_model.specs.World.{World}
use Rattle.world_model.specs.BootNames.{java_string, java_throwable}
use Rattle.world_model.specs.BootTable.{boot_table}
use Rattle.world_model.specs.Supertypes.{is_sub, each_once, chain_within, field_order_within}
use Rattle.world_model.specs.Layout.{layout}
use Rattle.link_model.specs.WorldOf.{world_of}
use Rattle.machine_model.specs.Conforms.{is_present}
use Rattle.link_laws.proofs.Names.{same_text}
use Rattle.machine_laws.specs.Runnable.{IsThrowable, thrown_names}
use Rattle.boot_laws.specs.Laws.{BootClasses}

abbrev can_be_thrown : World → List ℕ → Bool
can_be_thrown world name = is_present world name && not (bytes_eq name java_string) && is_sub world name java_throwable

-- what all names of a list pass one of them passes
name_passes : (test : List ℕ → Bool) (names : List (List ℕ)) (name : List ℕ) → list_all test names ≡ true
    → list_any (bytes_eq name) names ≡ true → test name ≡ true
name_passes test [] name all h = absurd cc
name_passes test (n ∷ names) name all h =
    let p = and_parts (test n) (list_all test names) all in
    elim (or_cases (bytes_eq name n) (list_any (bytes_eq name) names) h) [
      | inl same ↦ ap test (same_text name n same) ∙ p.0
      | inr other ↦ name_passes test names name p.1 other
    ]

thrown_classes : (classes : List LoadedClass) → list_all (can_be_thrown (world_of boot_table classes)) thrown_names ≡ true
unfolding boot_table each_once field_order_within
thrown_classes classes = refl

throwable_itself : (classes : List LoadedClass) → can_be_thrown (world_of boot_table classes) java_throwable ≡ true
unfolding boot_table each_once field_order_within
throwable_itself classes = refl

is_throwable : (world : World) (name : List ℕ) → can_be_thrown world name ≡ true → IsThrowable world name
is_throwable world name h =
    let p = and_parts (is_present world name && not (bytes_eq name java_string)) (is_sub world name java_throwable) h in
    let q = and_parts (is_present world name) (not (bytes_eq name java_string)) p.0 in
    record { present = q.0; no_string = not-true (bytes_eq name java_string) q.1; below = p.1 }

pub boot_classes_hold : (classes : List LoadedClass) → BootClasses (world_of boot_table classes)
unfolding boot_table layout chain_within
boot_classes_hold classes = record {
  throwables = λ name h. is_throwable (world_of boot_table classes) name (name_passes (can_be_thrown (world_of boot_table classes)) thrown_names name (thrown_classes classes) h);
  throwable = is_throwable (world_of boot_table classes) java_throwable (throwable_itself classes);
  throwable_class = refl;
  strings = refl;
  stream = refl;
  stream_fields = refl;
}
