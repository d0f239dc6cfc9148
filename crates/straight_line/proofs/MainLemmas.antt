-- The code of main, found among what was loaded.
use Rattle.std.proofs.Common.{◌≡◌, ℕ, zero, suc, ◌+◌, ◌≤◌, Bool, true, false, cond, ◌&&◌, ◌||◌, is_some, List, [], ◌∷◌, ◌++◌, take, drop, length, map, slice_get, Option, Some, None, option_map, refl, sym, ap, ◌∙◌, append_assoc, arith}
use Rattle.std.specs.Prelude.{option_and_then, bytes_eq, codes}
use Rattle.std.specs.List.{find, list_all, list_any}
use Rattle.std.proofs.lemmas.List.{append-nil, drop_all}
use Rattle.std.proofs.lemmas.List.Folds.{list_all-map}
use Rattle.std.proofs.lemmas.Slice.Eq.{bytes_eq-Decides}
use Rattle.byteorder.specs.Endian.{big_number}
use Rattle.jv_model.specs.ClassData.{Const, Attr, Member}
use Rattle.jv_model.specs.Profile.{constant_value}
use Rattle.jv_model.specs.ConstantPool.{units_at, is_named}
use Rattle.jv_model.specs.Code as code
use Rattle.jv_model.specs.Operand.{Operand}
use Rattle.jv_model.specs.Partial.{◌>>=◌}
use Rattle.code_model.specs.Names.{named, operand_at}
use Rattle.link_model.specs.WorldOf.{constant_in, field_of, method_of, methods_of, class_of}
use Rattle.world_model.specs.World.{Method}
use Rattle.jv_types.specs.ClassData.{attr_of, attrs_of, member_of, pool_of}
use Rattle.jv_types.specs.Loaded.{loaded_of}
use Rattle.jv_types.specs.declared.class_data.Member.{Member as HereMember}
use Rattle.jv_types.specs.declared.loaded.Loaded.{Loaded}
use Rattle.jv_types.specs.declared.class_data.Attr.{Attr as Here}
use Rattle.straight_line_model.specs.Instruction as model
use Rattle.straight_line_model.specs.StraightLine.{is_return}
use Rattle.run_model.specs.Later.{begins_as_string, is_main, is_main_or_constructor}
use Rattle.run_model.specs.MainCode.{instruction_of, instructions_of, up_to_return, with_instructions, straight_body}

-- ---- instructions

-- one that isn't run
pub first_is_none : (first : code.Placed Operand) (others : List (code.Placed Operand))
    → instruction_of first.instruction ≡ None → instructions_of (first ∷ others) ≡ None
unfolding instructions_of
first_is_none first others none = rw none refl

behind_front : (front : List model.Instruction) (here : model.Instruction)
    (found : Option (List model.Instruction))
    → ((found >>= λ rest. Some (here ∷ rest)) >>= λ others. Some (front ++ others))
    ≡ (found >>= λ others. Some ((front ++ here ∷ []) ++ others))
behind_front front here None = refl
behind_front front here (Some rest) = ap Some (sym (append_assoc front (here ∷ []) rest))

-- one that is run, behind those before it
pub first_is_some : (first : code.Placed Operand) (others : List (code.Placed Operand))
    (front : List model.Instruction) (here : model.Instruction)
    → instruction_of first.instruction ≡ Some here
    → (instructions_of others >>= λ others. Some ((front ++ here ∷ []) ++ others))
    ≡ (instructions_of (first ∷ others) >>= λ others. Some (front ++ others))
unfolding instructions_of
first_is_some first others front here some =
    sym (behind_front front here (instructions_of others)) ∙ rw some refl

-- none are left
pub none_left : (left : List (code.Placed Operand)) (front : List model.Instruction)
    → left ≡ [] → (instructions_of left >>= λ others. Some (front ++ others)) ≡ Some front
unfolding instructions_of
none_left left front none = rw none (ap Some (append-nil front))

-- those from an item of a list on
pub drop_item : {A : Type 0} (xs : List A) (i : ℕ) (x : A) → slice_get xs i ≡ Some x
    → drop i xs ≡ x ∷ drop (i + 1) xs
drop_item [] i x is = absurd cc
drop_item (y ∷ xs) zero x is = let same : y ≡ x = cc in ap (λ z. z ∷ xs) same
drop_item (y ∷ xs) (suc i) x is =
    let more : suc i + 1 ≡ suc (i + 1) = omega arith in rw more (drop_item xs i x is)

-- those up to it
take_item : {A : Type 0} (xs : List A) (i : ℕ) (x : A) → slice_get xs i ≡ Some x
    → take (i + 1) xs ≡ take i xs ++ x ∷ []
take_item [] i x is = absurd cc
take_item (y ∷ xs) zero x is = let same : y ≡ x = cc in ap (λ z. z ∷ []) same
take_item (y ∷ xs) (suc i) x is =
    let more : suc i + 1 ≡ suc (i + 1) = omega arith in
    rw more (ap (λ rest. y ∷ rest) (take_item xs i x is))

-- The instructions so far go on, whatever is behind them.
abbrev pub RunsTo : ℕ → List model.Instruction → Type 0
RunsTo i instructions =
    option_map (λ rest. take i instructions ++ rest) (up_to_return (drop i instructions))
    ≡ up_to_return instructions

behind_one : (front : List model.Instruction) (here : model.Instruction)
    (found : Option (List model.Instruction))
    → option_map (λ rest. (front ++ here ∷ []) ++ rest) found
    ≡ option_map (λ rest. front ++ rest) (option_map (λ rest. here ∷ rest) found)
behind_one front here None = refl
behind_one front here (Some rest) = ap Some (append_assoc front (here ∷ []) rest)

pub one_more_runs : (i : ℕ) (instructions : List model.Instruction) (here : model.Instruction)
    → slice_get instructions i ≡ Some here → is_return here ≡ false → RunsTo i instructions
    → RunsTo (i + 1) instructions
one_more_runs i instructions here is goes_on so_far =
    rw (take_item instructions i here is)
    (behind_one (take i instructions) here (up_to_return (drop (i + 1) instructions))
    ∙ rw goes_on at (rw (drop_item instructions i here is) at so_far))

pub ends_here : (i : ℕ) (instructions : List model.Instruction) (here : model.Instruction)
    → slice_get instructions i ≡ Some here → is_return here ≡ true → RunsTo i instructions
    → Some (take (i + 1) instructions) ≡ up_to_return instructions
ends_here i instructions here is ends so_far =
    rw (take_item instructions i here is)
    (rw ends at (rw (drop_item instructions i here is) at so_far))

pub never_ends : (i : ℕ) (instructions : List model.Instruction) → RunsTo i instructions
    → length instructions ≤ i → None ≡ up_to_return instructions
never_ends i instructions so_far beyond = rw (drop_all i instructions beyond) at so_far

-- the code that was found, of as many instructions as are reached
pub body_is : (body : code.Body Operand) (instructions reached : List model.Instruction)
    → Some instructions ≡ instructions_of body.instructions
    → Some reached ≡ up_to_return instructions
    → Some (with_instructions body reached) ≡ straight_body body
body_is body instructions reached found is = rw (← found, ← is) refl

pub no_body : (body : code.Body Operand) (instructions : List model.Instruction)
    → Some instructions ≡ instructions_of body.instructions → None ≡ up_to_return instructions
    → None ≡ straight_body body
no_body body instructions found is = rw (← found, ← is) refl

-- ---- the methods of a class

abbrev pub code_there : List (Option (code.Body ℕ)) → ℕ → Option (code.Body ℕ)
code_there bodies k = option_and_then (λ (b : Option (code.Body ℕ)). b) (slice_get bodies k)

pub method_there : (pool : List Const) (members : List Member)
    (bodies : List (Option (code.Body ℕ))) (k : ℕ) (member : Member)
    → slice_get members k ≡ Some member
    → slice_get (methods_of pool members bodies) k
    ≡ Some (method_of pool member (code_there bodies k))
unfolding methods_of
method_there pool [] bodies k member is = absurd cc
method_there pool (first ∷ members) [] zero member is =
    let same : first ≡ member = cc in ap (λ m. Some (method_of pool m None)) same
method_there pool (first ∷ members) [] (suc k) member is =
    method_there pool members [] k member is
method_there pool (first ∷ members) (body ∷ bodies) zero member is =
    let same : first ≡ member = cc in ap (λ m. Some (method_of pool m body)) same
method_there pool (first ∷ members) (body ∷ bodies) (suc k) member is =
    method_there pool members bodies k member is

pub methods-length : (pool : List Const) (members : List Member)
    (bodies : List (Option (code.Body ℕ))) → length (methods_of pool members bodies) ≡ length members
unfolding methods_of
methods-length pool [] bodies = refl
methods-length pool (first ∷ members) [] = ap suc (methods-length pool members [])
methods-length pool (first ∷ members) (body ∷ bodies) = ap suc (methods-length pool members bodies)

-- what each is doesn't depend on its code
pub all_are : (pool : List Const) (members : List Member) (bodies : List (Option (code.Body ℕ)))
    → list_all is_main_or_constructor (methods_of pool members bodies)
    ≡ list_all (λ m. is_main_or_constructor (method_of pool m None)) members
unfolding methods_of
all_are pool [] bodies = refl
all_are pool (first ∷ members) [] =
    ap (λ rest. is_main_or_constructor (method_of pool first None) && rest) (all_are pool members [])
all_are pool (first ∷ members) (body ∷ bodies) =
    ap (λ rest. is_main_or_constructor (method_of pool first None) && rest)
    (all_are pool members bodies)

-- ---- main among them

abbrev pub main_descriptor : List ℕ
main_descriptor = codes "([Ljava/lang/String;)V"

-- the code with names
abbrev pub code_found : List Const → Option (code.Body ℕ) → Option (code.Body Operand)
code_found pool found = option_map (named pool main_descriptor) found

second_holds : (a b : Bool) → (a && b) ≡ true → b ≡ true
second_holds true b is = is
second_holds false b is = absurd cc

main_has_descriptor : (pool : List Const) (member : Member) (found : Option (code.Body ℕ))
    → is_main (method_of pool member found) ≡ true
    → units_at pool member.descriptor ≡ main_descriptor
main_has_descriptor pool member found is =
    (bytes_eq-Decides (units_at pool member.descriptor) main_descriptor).0
    (second_holds (bytes_eq (units_at pool member.name) (codes "main"))
    (bytes_eq (units_at pool member.descriptor) main_descriptor) is)

module _ (pool : List Const) (members : List Member) (bodies : List (Option (code.Body ℕ))) where
  abbrev IsLeft : ℕ → Type 0
  IsLeft k = find is_main (drop k (methods_of pool members bodies))
      ≡ find is_main (methods_of pool members bodies)

  abbrev code_of_found : Option Method → Option (code.Body Operand)
  code_of_found found = found >>= λ (m : Method). m.code

  left : (k : ℕ) (member : Member) → slice_get members k ≡ Some member
      → drop k (methods_of pool members bodies)
      ≡ method_of pool member (code_there bodies k) ∷ drop (k + 1) (methods_of pool members bodies)
  left k member is = drop_item (methods_of pool members bodies) k
      (method_of pool member (code_there bodies k)) (method_there pool members bodies k member is)

  pub main_here : (k : ℕ) (member : Member) (found : Option (code.Body ℕ))
      → slice_get members k ≡ Some member → found ≡ code_there bodies k
      → is_main (method_of pool member found) ≡ true → IsLeft k
      → code_found pool found
      ≡ code_of_found (find is_main (methods_of pool members bodies))
  main_here k member found is is_code main so_far =
      let first : find is_main (drop k (methods_of pool members bodies))
      ≡ Some (method_of pool member (code_there bodies k)) =
      rw (left k member is) (rw main refl) in
      rw is_code (ap (λ d. option_map (named pool d) (code_there bodies k))
      (sym (main_has_descriptor pool member found main))
      ∙ ap code_of_found (sym first ∙ so_far))

  pub main_later : (k : ℕ) (member : Member) → slice_get members k ≡ Some member
      → is_main (method_of pool member (code_there bodies k)) ≡ false → IsLeft k → IsLeft (k + 1)
  main_later k member is other so_far =
      rw other at (rw (left k member is) at so_far)

  pub no_main : (k : ℕ) → length members ≤ k → IsLeft k
      → None ≡ code_of_found (find is_main (methods_of pool members bodies))
  no_main k beyond so_far =
      let all : length (methods_of pool members bodies) ≤ k =
      omega (arith, methods-length pool members bodies) in
      ap code_of_found (rw (drop_all k (methods_of pool members bodies) all) at so_far)

-- ---- fields

-- a field whose attributes have a ConstantValue has a constant
pub constant_is_there : (pool : List Const) (attributes : List Here)
    → list_any (λ (a : Here). is_named pool constant_value a.name) attributes
    ≡ is_some (constant_in pool (attrs_of attributes))
constant_is_there pool [] = refl
constant_is_there pool (first ∷ others) =
    by_test (is_named pool constant_value first.name) (constant_is_there pool others)
  where
    by_test : (test : Bool)
        → list_any (λ (a : Here). is_named pool constant_value a.name) others
        ≡ is_some (constant_in pool (attrs_of others))
        → (test || list_any (λ (a : Here). is_named pool constant_value a.name) others)
        ≡ is_some (option_map (λ (a : Attr). operand_at pool (big_number 2 a.bytes))
        (cond test (Some (attr_of first))
        (find (λ (a : Attr). is_named pool constant_value a.name) (attrs_of others))))
    by_test true rest = refl
    by_test false rest = rest

-- ---- a class, by its members as they were read

module _ (class : Loaded) where
  abbrev here_pool : List Const
  here_pool = pool_of class.file.pool.items

  pub all_methods : list_all is_main_or_constructor (class_of (loaded_of class)).methods
      ≡ list_all (λ (m : HereMember). is_main_or_constructor (method_of here_pool (member_of m) None))
      class.file.methods.items
  all_methods =
      all_are here_pool (map member_of class.file.methods.items) (loaded_of class).codes
      ∙ list_all-map (λ (m : Member). is_main_or_constructor (method_of here_pool m None)) member_of
      class.file.methods.items

  pub any_field : list_any begins_as_string (class_of (loaded_of class)).fields
      ≡ list_any (λ (f : HereMember). begins_as_string (field_of here_pool (member_of f)))
      class.file.fields.items
  any_field = each class.file.fields.items
    where
      each : (fields : List HereMember)
          → list_any begins_as_string (map (field_of here_pool) (map member_of fields))
          ≡ list_any (λ (f : HereMember). begins_as_string (field_of here_pool (member_of f))) fields
      each [] = refl
      each (first ∷ others) =
          ap (λ rest. begins_as_string (field_of here_pool (member_of first)) || rest) (each others)
