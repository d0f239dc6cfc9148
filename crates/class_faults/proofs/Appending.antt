-- Lists that grow by what each item of another has.
use Rattle.std.proofs.Common.{◌≡◌, ℕ, ◌+◌, ◌<◌, ◌≤◌, List, [], ◌∷◌, ◌++◌, Option, length, map, get_or, drop, flat_map, option_to_list, ap, sym, ◌∙◌, refl, append_assoc}
use Rattle.std.proofs.lemmas.Grind.{flat_map-append}
use Rattle.std.proofs.lemmas.List.Folds.{flat_map-map}
use Rattle.jv_model.specs.ClassData as class_data
use Rattle.jv_model.specs.ClassData.{Const}
use Rattle.jv_model.specs.Code.{Placed}
use Rattle.link_model.specs.Uses.{Used, used, as_superclass, as_interface, as_field_descriptor, as_method_descriptor, instruction_uses, handler_uses, frame_uses, code_uses, uses_of}
use Rattle.jv_types.specs.ClassData.{member_of, pool_of}
use Rattle.jv_types.specs.Code.{handler_of, body_of}
use Rattle.jv_types.specs.Instruction.{instruction_of}
use Rattle.jv_types.specs.Instructions.{placed_of}
use Rattle.jv_types.specs.Loaded.{loaded_of, code_of}
use Rattle.jv_types.specs.declared.class_data.Member.{Member}
use Rattle.jv_types.specs.declared.code.CodeBody.{CodeBody}
use Rattle.jv_types.specs.declared.code.Handler.{Handler}
use Rattle.jv_types.specs.declared.instructions.Insn.{Insn}
use Rattle.jv_types.specs.declared.loaded.Loaded.{Loaded}
use Rattle.class_faults.specs.Uses.{method_uses}
use Rattle.std.proofs.lemmas.List.{append-nil, at_drop_more, at_drop_all}

map-map : {A B C : Type 0} (f : B → C) (g : A → B) (xs : List A) → map f (map g xs) ≡ map (λ x. f (g x)) xs
map-map f g [] = refl
map-map f g (x ∷ xs) = ap (λ l. f (g x) ∷ l) (map-map f g xs)

module _ {L A : Type 0} (f : L → List A) (items : List L) (i : ℕ) where
  -- what one item more has is added
  pub flat_more : (x : L) (old new whole : List A) → i < length items → x ≡ get_or items i x → new ≡ old ++ f x
      → old ++ flat_map f (drop i items) ≡ whole → new ++ flat_map f (drop (i + 1) items) ≡ whole
  flat_more x old new whole inside is adds so_far =
      ap (λ (l : List A). l ++ flat_map f (drop (i + 1) items)) adds
      ∙ append_assoc old (f x) (flat_map f (drop (i + 1) items))
      ∙ ap (λ (y : L). old ++ (f y ++ flat_map f (drop (i + 1) items))) is
      ∙ sym (at_drop_more (λ (l : List L). old ++ flat_map f l) items i x inside)
      ∙ so_far

  -- the same, where the item was read by its place
  pub flat_more_at : (d : L) (old new whole : List A) → i < length items → new ≡ old ++ f (get_or items i d)
      → old ++ flat_map f (drop i items) ≡ whole → new ++ flat_map f (drop (i + 1) items) ≡ whole
  flat_more_at d old new whole inside adds so_far =
      ap (λ (l : List A). l ++ flat_map f (drop (i + 1) items)) adds
      ∙ append_assoc old (f (get_or items i d)) (flat_map f (drop (i + 1) items))
      ∙ sym (at_drop_more (λ (l : List L). old ++ flat_map f l) items i d inside)
      ∙ so_far

  pub flat_end : (old whole : List A) → length items ≤ i → old ++ flat_map f (drop i items) ≡ whole → old ≡ whole
  flat_end old whole end so_far =
      sym (append-nil old) ∙ sym (at_drop_all (λ (l : List L). old ++ flat_map f l) items i end) ∙ so_far

-- ---- what code uses

abbrev insn_uses : List Const → Insn → List Used
insn_uses pool insn = instruction_uses pool (instruction_of insn.instruction)

pub code_added : (pool : List Const) (body : CodeBody) (insns : List Insn) (handlers : List Handler)
    (before first second : List Used) → map placed_of insns ≡ body.instructions → handlers ≡ body.handlers.items
    → first ≡ before ++ flat_map (λ insn. instruction_uses pool (instruction_of insn.instruction)) insns
    → second ≡ first ++ flat_map (λ row. handler_uses (handler_of row)) handlers
    → second ++ flat_map frame_uses body.frames ≡ before ++ code_uses pool (body_of body)
code_added pool body insns handlers before first second is_insns is_handlers one two =
    let a = flat_map (λ (p : Placed ℕ). instruction_uses pool p.instruction) body.instructions in
    let b = flat_map handler_uses (map handler_of body.handlers.items) in
    let d = flat_map frame_uses body.frames in
    let is_a : flat_map (insn_uses pool) insns ≡ a =
    sym (flat_map-map (λ (p : Placed ℕ). instruction_uses pool p.instruction) placed_of insns)
    ∙ ap (flat_map (λ (p : Placed ℕ). instruction_uses pool p.instruction)) is_insns in
    let is_b : flat_map (λ row. handler_uses (handler_of row)) handlers ≡ b =
    ap (flat_map (λ row. handler_uses (handler_of row))) is_handlers ∙ sym (flat_map-map handler_uses handler_of body.handlers.items) in
    (λ i. two i ++ d) ∙ (λ i. one i ++ is_b i ++ d) ∙ (λ i. before ++ is_a i ++ b ++ d)
    ∙ ap (λ (l : List Used). l ++ d) (append_assoc before a b)
    ∙ append_assoc before (a ++ b) d

-- the code of all methods
flat_map-options : (pool : List Const) (codes : List (Option CodeBody))
    → flat_map (λ code. method_uses pool (code_of code)) codes ≡ flat_map (code_uses pool) (flat_map option_to_list (map code_of codes))
flat_map-options pool [] = refl
flat_map-options pool (code ∷ codes) =
    ap (λ (l : List Used). method_uses pool (code_of code) ++ l) (flat_map-options pool codes)
    ∙ sym (flat_map-append (code_uses pool) (option_to_list (code_of code)) (flat_map option_to_list (map code_of codes)))

pub all_added : (class : Loaded) (interfaces : List ℕ) (fields methods : List Member) (pool : List Const) (codes : List (Option CodeBody))
    (none one two three four five : List Used) → none ≡ [] → interfaces ≡ class.file.interfaces.items → fields ≡ class.file.fields.items
    → methods ≡ class.file.methods.items → pool ≡ pool_of class.file.pool.items → codes ≡ class.codes.items
    → one ≡ none ++ used as_superclass class.file.super_class ∷ []
    → two ≡ one ++ map (used as_interface) interfaces
    → three ≡ two ++ map (λ (m : Member). used as_field_descriptor m.descriptor) fields
    → four ≡ three ++ map (λ (m : Member). used as_method_descriptor m.descriptor) methods
    → five ≡ four ++ flat_map (λ code. method_uses pool (code_of code)) codes
    → five ≡ uses_of (loaded_of class)
unfolding uses_of
all_added class interfaces fields methods pool codes none one two three four five empty is_interfaces is_fields is_methods is_pool is_codes first second third fourth fifth =
    let head = used as_superclass class.file.super_class in
    let a = map (used as_interface) class.file.interfaces.items in
    let field_uses = λ (m : class_data.Member). used as_field_descriptor m.descriptor in
    let method_uses_of = λ (m : class_data.Member). used as_method_descriptor m.descriptor in
    let b = map field_uses (map member_of class.file.fields.items) in
    let d = map method_uses_of (map member_of class.file.methods.items) in
    let e = flat_map (code_uses (pool_of class.file.pool.items)) (flat_map option_to_list (map code_of class.codes.items)) in
    let is_b : map (λ (m : Member). used as_field_descriptor m.descriptor) fields ≡ b =
    ap (map (λ (m : Member). used as_field_descriptor m.descriptor)) is_fields ∙ sym (map-map field_uses member_of class.file.fields.items) in
    let is_d : map (λ (m : Member). used as_method_descriptor m.descriptor) methods ≡ d =
    ap (map (λ (m : Member). used as_method_descriptor m.descriptor)) is_methods ∙ sym (map-map method_uses_of member_of class.file.methods.items) in
    let is_e : flat_map (λ code. method_uses pool (code_of code)) codes ≡ e =
    (λ i. flat_map (λ code. method_uses (is_pool i) (code_of code)) (is_codes i)) ∙ flat_map-options (pool_of class.file.pool.items) class.codes.items in
    fifth ∙ (λ i. fourth i ++ is_e i) ∙ (λ i. third i ++ is_d i ++ e) ∙ (λ i. second i ++ is_b i ++ d ++ e)
    ∙ (λ i. first i ++ map (used as_interface) (is_interfaces i) ++ b ++ d ++ e)
    ∙ (λ i. (empty i ++ head ∷ []) ++ a ++ b ++ d ++ e)
