-- The flags of the members of a class, as it was read.
use Rattle.std.proofs.Common.{◌≡◌, ℕ, zero, suc, ◌<◌, ◌≤◌, length, get_or, List, [], ◌∷◌, Option, Some, None, map, slice_get, option_map, ap, sym, ◌∙◌, refl}
use Rattle.std.proofs.lemmas.Option.{slice_get-map, slice_get_read, slice_get_past}
use Rattle.jv_model.specs.ClassData as model
use Rattle.jv_model.specs.ClassData.{Const}
use Rattle.jv_model.specs.Code.{Body}
use Rattle.world_model.specs.World.{Field, Method}
use Rattle.link_model.specs.WorldOf.{field_of, methods_of}
use Rattle.jv_types.specs.ClassData.{member_of, pool_of}
use Rattle.jv_types.specs.Loaded.{code_of}
use Rattle.jv_types.specs.declared.class_data.Member.{Member}
use Rattle.jv_types.specs.declared.loaded.Loaded.{Loaded}
use Rattle.class_world.specs.World.{class_of_origin}
use Rattle.class_world.specs.declared.class_info.Origin.{Origin}
use Rattle.class_world.specs.declared.class_info.Origin.TheVariants.{Program}

-- what is read of a list is what is there
pub some_read : {A : Type 0} (xs ys : List A) (k : ℕ) (x : A) → ys ≡ xs → x ≡ get_or ys k x → k < length ys
    → slice_get xs k ≡ Some x
some_read xs ys k x same is inside =
    ap (λ l. slice_get l k) (sym same) ∙ slice_get_read ys (length ys) k x refl inside is

pub none_read : {A : Type 0} (xs ys : List A) (k : ℕ) → ys ≡ xs → length ys ≤ k → slice_get xs k ≡ None
none_read xs ys k same past = ap (λ l. slice_get l k) (sym same) ∙ slice_get_past ys k past

of_mapped : {A B : Type 0} (f : A → B) (g : B → ℕ) (xs : List A) (k : ℕ)
    → option_map g (slice_get (map f xs) k) ≡ option_map (λ x. g (f x)) (slice_get xs k)
of_mapped {A = A} f g xs k = ap (option_map g) (slice_get-map f xs k) ∙ twice (slice_get xs k)
  where
    twice : (o : Option A) → option_map g (option_map f o) ≡ option_map (λ x. g (f x)) o
    twice None = refl
    twice (Some x) = refl

of_methods : (pool : List Const) (members : List model.Member) (bodies : List (Option (Body ℕ))) (k : ℕ)
    → option_map (λ (m : Method). m.flags) (slice_get (methods_of pool members bodies) k)
    ≡ option_map (λ (m : model.Member). m.flags) (slice_get members k)
unfolding methods_of
of_methods pool [] bodies k = refl
of_methods pool (member ∷ members) [] zero = refl
of_methods pool (member ∷ members) [] (suc k) = of_methods pool members [] k
of_methods pool (member ∷ members) (body ∷ bodies) zero = refl
of_methods pool (member ∷ members) (body ∷ bodies) (suc k) = of_methods pool members bodies k

module _ (names : List (List ℕ)) (origin : Origin) (loaded : Loaded) (is : origin ≡ Program loaded) (k : ℕ) where
  pub program_field : option_map (λ (f : Field). f.flags) (slice_get (class_of_origin names origin).fields k)
      ≡ option_map (λ (m : Member). m.flags) (slice_get loaded.file.fields.items k)
  program_field =
      ap (λ (o : Origin). option_map (λ (f : Field). f.flags) (slice_get (class_of_origin names o).fields k)) is
      ∙ of_mapped (field_of (pool_of loaded.file.pool.items)) (λ (f : Field). f.flags) (map member_of loaded.file.fields.items) k
      ∙ of_mapped member_of (λ (m : model.Member). m.flags) loaded.file.fields.items k

  pub program_method : option_map (λ (m : Method). m.flags) (slice_get (class_of_origin names origin).methods k)
      ≡ option_map (λ (m : Member). m.flags) (slice_get loaded.file.methods.items k)
  program_method =
      ap (λ (o : Origin). option_map (λ (m : Method). m.flags) (slice_get (class_of_origin names o).methods k)) is
      ∙ of_methods (pool_of loaded.file.pool.items) (map member_of loaded.file.methods.items) (map code_of loaded.codes.items) k
      ∙ of_mapped member_of (λ (m : model.Member). m.flags) loaded.file.methods.items k
