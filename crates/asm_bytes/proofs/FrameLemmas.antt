-- Frames, one by one.
use Rattle.std.proofs.Common.{◌≡◌, ℕ, zero, suc, ◌+◌, List, [], ◌∷◌, ◌++◌, true, false, drop, Option, Some, Result, Ok, length, refl, ap, sym, ◌∙◌, append_assoc, add-one, arith}
use Rattle.std.specs.Prelude.{codes, slice_get, unwrap_or}
use Rattle.std.proofs.lemmas.List.{append-nil, length-map}
use Rattle.jv_model.specs.ClassBytes.{u2, u4}
use Rattle.jv_model.specs.Refusal.{LineKind}
use Rattle.assembler_model.specs.AssemblerTerms.{AssemblerLine, FrameType, Label, frame}
use Rattle.assembler_model.specs.PoolEntries.{Entry, text_entry}
use Rattle.assembler_model.specs.AssemblerPool.{index_in}
use Rattle.assembler_model.specs.CodeBytes.{frames_bytes, map_bytes, maps_bytes}
use Rattle.assembler_model.specs.CodeLines.{CodeLine}
use Rattle.assembler_model.specs.CodeFaults.{FrameAt, frames_of, offset_delta}
use Rattle.asm_code.specs.Faults.{is_frame_said}
use Rattle.asm_code.proofs.FaultLemmas.{frame_number, frame_skip, frames_none}
use Rattle.asm_bytes.specs.Bytes.{frame_bytes, full_frame, last_pc}

-- a line that is a frame
pub frame_is : (entries : List Entry) (target : Label → ℕ) (before : Option ℕ) (here : CodeLine) (locals stack : List FrameType)
    → here.line.said ≡ Ok (frame locals stack)
    → frame_bytes entries target before here ≡ full_frame entries target (unwrap_or (offset_delta before here.pc) 0) locals stack
unfolding frames_of frames_bytes
frame_is entries target before here locals stack is =
    rw is (append-nil (full_frame entries target (unwrap_or (offset_delta before here.pc) 0) locals stack))

-- and one that is none
pub frame_none : (entries : List Entry) (target : Label → ℕ) (before : Option ℕ) (here : CodeLine) → is_frame_said here.line.said ≡ false
    → frame_bytes entries target before here ≡ []
unfolding frames_bytes
frame_none entries target before here is =
    ap (frames_bytes entries target before) (frame_skip here [] is ∙ frames_none)

-- it adds nothing, and the last frame is the one before
pub frame_passed : (entries : List Entry) (target : Label → ℕ) (before : Option ℕ) (here : CodeLine) (bytes : List ℕ)
    → is_frame_said here.line.said ≡ false → bytes ≡ bytes ++ frame_bytes entries target before here
frame_passed entries target before here bytes is =
    sym (append-nil bytes) ∙ ap (λ more. bytes ++ more) (sym (frame_none entries target before here is))

pub last_passed : (before : Option ℕ) (here : CodeLine) → is_frame_said here.line.said ≡ false → before ≡ last_pc before here
last_passed before here is = rw is refl

by_said : (said : Result AssemblerLine LineKind) (entries : List Entry) (target : Label → ℕ) (before : Option ℕ) (here : CodeLine)
    (rest : List CodeLine) → here.line.said ≡ said
    → frames_bytes entries target before (frames_of (here ∷ rest))
    ≡ frame_bytes entries target before here ++ frames_bytes entries target (last_pc before here) (frames_of rest)
unfolding frames_of frames_bytes
by_said (Ok (frame locals stack)) entries target before here rest is =
    rw is (ap (λ first. first ++ frames_bytes entries target here.pc (frames_of rest))
    (sym (append-nil (full_frame entries target (unwrap_or (offset_delta before here.pc) 0) locals stack))))
by_said other entries target before here rest is = rw is refl

-- one line more
pub frames_next : (entries : List Entry) (target : Label → ℕ) (before : Option ℕ) (here : CodeLine) (rest : List CodeLine)
    → frames_bytes entries target before (frames_of (here ∷ rest))
    ≡ frame_bytes entries target before here ++ frames_bytes entries target (last_pc before here) (frames_of rest)
frames_next entries target before here rest = by_said here.line.said entries target before here rest refl

pub frames_end : (entries : List Entry) (target : Label → ℕ) (before : Option ℕ) → frames_bytes entries target before (frames_of []) ≡ []
unfolding frames_bytes
frames_end entries target before = ap (frames_bytes entries target before) frames_none

-- ---- the attribute

pub no_maps : (entries : List Entry) (target : Label → ℕ) (frames : List FrameAt) → length frames ≡ 0
    → u2 0 ≡ maps_bytes entries target frames
no_maps entries target [] none = refl
no_maps entries target (first ∷ others) none = absurd (omega (arith, none))

some_maps : (entries : List Entry) (target : Label → ℕ) (frames : List FrameAt) → (length frames ≡ 0 → ⊥)
    → ((u2 1 ++ u2 (index_in entries (text_entry (codes "StackMapTable")))) ++ u4 (length (map_bytes entries target frames)))
    ++ map_bytes entries target frames
    ≡ maps_bytes entries target frames
some_maps entries target [] some = absurd (some refl)
some_maps entries target (first ∷ others) some = refl

behind_bytes : (b0 x y z w : List ℕ) → (((b0 ++ x) ++ y) ++ z) ++ w ≡ b0 ++ (((x ++ y) ++ z) ++ w)
behind_bytes b0 x y z w = simp append_assoc

-- the attribute, behind other bytes
pub maps_pushed : (entries : List Entry) (target : Label → ℕ) (frames : List FrameAt) (b0 b1 b2 b3 b4 map : List ℕ) (name size : ℕ)
    → (length frames ≡ 0 → ⊥) → map ≡ map_bytes entries target frames
    → name ≡ index_in entries (text_entry (codes "StackMapTable")) → size ≡ length map
    → b1 ≡ b0 ++ u2 1 → b2 ≡ b1 ++ u2 name → b3 ≡ b2 ++ u4 size → b4 ≡ b3 ++ map
    → b4 ≡ b0 ++ maps_bytes entries target frames
maps_pushed entries target frames b0 b1 b2 b3 b4 map name size some is-map is-name is-size e1 e2 e3 e4 =
    e4 ∙ ap (λ b. b ++ map) e3 ∙ ap (λ b. (b ++ u4 size) ++ map) e2 ∙ ap (λ b. ((b ++ u2 name) ++ u4 size) ++ map) e1
    ∙ behind_bytes b0 (u2 1) (u2 name) (u4 size) map
    ∙ ap (λ size. b0 ++ (((u2 1 ++ u2 name) ++ u4 size) ++ map)) is-size
    ∙ ap (λ name. b0 ++ (((u2 1 ++ u2 name) ++ u4 (length map)) ++ map)) is-name
    ∙ ap (λ map. b0 ++ (((u2 1 ++ u2 (index_in entries (text_entry (codes "StackMapTable")))) ++ u4 (length map)) ++ map)) is-map
    ∙ ap (λ more. b0 ++ more) (some_maps entries target frames some)

-- runs of bytes behind the numbers of words
pub regroup : (x a r n h m : List ℕ) → ((((x ++ a) ++ r) ++ n) ++ h) ++ m ≡ x ++ ((((a ++ r) ++ n) ++ h) ++ m)
regroup x a r n h m = simp append_assoc

-- ---- counts

get_next : {X : Type 0} (xs : List X) (i : ℕ) (x : X) → slice_get xs i ≡ Some x → drop i xs ≡ x ∷ drop (suc i) xs
get_next [] zero x is = absurd cc
get_next [] (suc i) x is = absurd cc
get_next (y ∷ ys) zero x is = ap (λ first. first ∷ ys) (let same : y ≡ x = cc in same)
get_next (y ∷ ys) (suc i) x is = get_next ys i x is

pub get_left : {X : Type 0} (xs : List X) (i : ℕ) (x : X) → slice_get xs i ≡ Some x → drop i xs ≡ x ∷ drop (i + 1) xs
get_left xs i x is = rw add-one (get_next xs i x is)

pub frame_length : (here : CodeLine) (rest : List CodeLine) → is_frame_said here.line.said ≡ true
    → length (frames_of (here ∷ rest)) ≡ length (frames_of rest) + 1
frame_length here rest is =
    let numbers = ap length (frame_number here rest is) in
    let all = length-map (frames_of (here ∷ rest)) (λ (f : FrameAt). f.number) in
    let others = length-map (frames_of rest) (λ (f : FrameAt). f.number) in
    omega (arith, numbers, all, others)
