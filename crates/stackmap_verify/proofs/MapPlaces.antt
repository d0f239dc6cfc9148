-- The frames of a stack map, by place.
use Rattle.std.proofs.Common.{◌≡◌, ℕ, ◌<◌, ◌==◌, Bool, true, false, if◌then◌else◌, List, [], ◌∷◌, Option, Some, None, length, map, find, slice_get, option_map, ap, sym, subst, ◌∙◌, refl}
use Rattle.std.proofs.lemmas.Option.{slice_get_within}
use Rattle.jv_model.specs.ClassData.{Const}
use Rattle.jv_model.specs.Operand.{Operand}
use Rattle.jv_model.specs.Descriptors.{MethodType}
use Rattle.jv_model.specs.Code.{MapFrame, Body}
use Rattle.code_model.specs.TypeReading.{method_type_of}
use Rattle.code_model.specs.Names.{named, named_frame}
use Rattle.typing_model.specs.VerificationType.{TypeFrame}
use Rattle.typing_model.specs.Environment.{Environment}
use Rattle.typing_model.specs.DescriptorFrame.{map_frame, map_frame_at}
use Rattle.jv_types.specs.ClassData.{pool_of}
use Rattle.jv_types.specs.Code.{body_of, frame_of}
use Rattle.jv_types.specs.declared.code.MapFrame as read
use Rattle.stackmap_verify.specs.declared.method.Method.{Method}
use Rattle.stackmap_verify.specs.FrameNumbers.{number_in, frame_at, FindsFrame}
use Rattle.stackmap_verify.specs.Methods.{IsMethod, IsSound}

find_map : {A B : Type 0} (p : B → Bool) (f : A → B) (xs : List A) → find p (map f xs) ≡ option_map f (find (λ x. p (f x)) xs)
find_map p f [] = refl
find_map p f (x ∷ xs) = by (p (f x)) (find_map p f xs)
  where
    by : (b : Bool) → find p (map f xs) ≡ option_map f (find (λ y. p (f y)) xs)
        → (if b then Some (f x) else find p (map f xs)) ≡ option_map f (if b then Some x else find (λ y. p (f y)) xs)
    by true rest = refl
    by false rest = rest

-- the frame of a map frame that was read
abbrev pub frame_made : Method → Environment → MapFrame ℕ → TypeFrame
frame_made method e frame = map_frame e (named_frame (pool_of method.code.now.pool.now) (Some e.type) frame)

frames_named : (pool : List Const) (descriptor : List ℕ) (body : Body ℕ) → (named pool descriptor body).frames ≡ map (named_frame pool (method_type_of descriptor)) body.frames
unfolding named
frames_named pool descriptor body = refl

module _ (method : Method) (e : Environment) (is : IsMethod method e) where
  -- the frames of the method are those that were read
  pub frames_are : e.body.frames ≡ map (named_frame (pool_of method.code.now.pool.now) (Some e.type)) method.code.now.body.now.frames
  frames_are =
      ap (λ (b : Body Operand). b.frames) is.code.body
      ∙ frames_named (pool_of method.code.now.pool.now) e.method.descriptor (body_of method.code.now.body.now)
      ∙ ap (λ (t : Option MethodType). map (named_frame (pool_of method.code.now.pool.now) t) method.code.now.body.now.frames)
      is.code.has_parameters.is_type

  at_place : (pc : ℕ) → map_frame_at e pc
      ≡ option_map (frame_made method e) (frame_at method.code.now.body.now.frames pc)
  at_place pc =
      let pool = pool_of method.code.now.pool.now in
      let read = method.code.now.body.now.frames in
      ap (λ (l : List (MapFrame Operand)). option_map (map_frame e) (find (λ f. f.pc == pc) l)) frames_are
      ∙ ap (option_map (map_frame e)) (find_map (λ (f : MapFrame Operand). f.pc == pc) (named_frame pool (Some e.type)) read)
      ∙ twice (frame_at read pc)
    where
      twice : (o : Option (MapFrame ℕ))
          → option_map (map_frame e) (option_map (named_frame (pool_of method.code.now.pool.now) (Some e.type)) o) ≡ option_map (frame_made method e) o
      twice None = refl
      twice (Some f) = refl

  -- where no number stands there is no frame,
  pub no_frame_at : (pc : ℕ) → IsSound method → None ≡ number_in method.numbers.now pc → map_frame_at e pc ≡ None
  no_frame_at pc sound none =
      at_place pc ∙ ap (option_map (frame_made method e)) (subst (FindsFrame method.code.now.body.now.frames pc) (sym none) (sound.numbers pc))

  -- and where one does, it's that frame
  pub frame_there : (pc number : ℕ) (frame : read.MapFrame) → IsSound method → Some number ≡ number_in method.numbers.now pc
      → slice_get method.code.now.body.now.frames number ≡ Some (frame_of frame)
      → map_frame_at e pc ≡ Some (frame_made method e (frame_of frame))
  frame_there pc number frame sound some there =
      let read = method.code.now.body.now.frames in
      let finds : FindsFrame read pc (Some number) = subst (FindsFrame read pc) (sym some) (sound.numbers pc) in
      let same : Some finds.0 ≡ Some (frame_of frame) = sym finds.1 ∙ there in
      at_place pc ∙ ap (option_map (frame_made method e)) (finds.2 ∙ same)

-- a number that stands somewhere is that of a frame
pub number_inside : (method : Method) (pc number : ℕ) → IsSound method → Some number ≡ number_in method.numbers.now pc
    → number < length method.code.now.body.now.frames
number_inside method pc number sound some =
    let read = method.code.now.body.now.frames in
    let finds : FindsFrame read pc (Some number) = subst (FindsFrame read pc) (sym some) (sound.numbers pc) in
    slice_get_within read number finds.0 finds.1
