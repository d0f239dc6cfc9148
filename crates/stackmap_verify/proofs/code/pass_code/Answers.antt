use Rattle.std.proofs.Common.{ℕ, List, is_some, map, ap, sym, subst, refl, ◌∙◌}
use Rattle.std.specs.List.{All}
use Rattle.std.proofs.lemmas.Result.{IfOk-weaker}
use Rattle.jv_model.specs.Code.{Placed}
use Rattle.jv_model.specs.ConstantPool.{units_at}
use Rattle.code_model.specs.Names.{named, named_placed}
use Rattle.linked_laws.specs.Code.{InstructionIsLinked}
use Rattle.jv_types.specs.ClassData.{pool_of}
use Rattle.jv_types.specs.Code.{body_of}
use Rattle.jv_types.specs.declared.class_data.Const.{Const}
use Rattle.type_rules.specs.Types.{field_type_of}
use Rattle.instruction_types.specs.Environment.{IsEnvironment}
use Rattle.member_types.specs.Signatures.{AreKnownFields}
use Rattle.map_frames.specs.Methods.{IsMethodType, HasMethodCode}
use Rattle.map_frames.specs.Linked.{HasLinkedEntries}
use Rattle.stackmap_verify.specs.Environments.{Describes}
use Rattle.stackmap_verify.proofs.Described.{superclass_there, instructions_there, frames_there, env, described, passes_as}
use Rattle.stackmap_verify.proofs.code.pass_code.Goals as goal

pub environment-here-requires-clause-superclass : goal.environment-here-requires-clause-superclass
environment-here-requires-clause-superclass g c =
    superclass_there c.args.world.now c.args.coded.now.class.now c.args.coded.now.loaded.now c.args.coded.now.member.now c.args.coded.now.body.now c.requires.class c.requires.linked

pub pass_over-requires-clause-method : goal.pass_over-requires-clause-method
pass_over-requires-clause-method g c =
    let w = c.args.world.now in
    let loaded = c.args.coded.now.loaded.now in
    let body = c.args.coded.now.body.now in
    record {
      ready = c.environment-here.ensures.ready;
      parameters = subst (AreKnownFields w) (sym c.as_slice.ensures) c.in_ok-types.ensures.parameters_there;
      instructions = subst (λ (p : List Const). All (λ (q : Placed ℕ). InstructionIsLinked w (named_placed (pool_of p) q).instruction) body.instructions)
          (sym c.as_slice-pool.ensures)
          (instructions_there w c.args.coded.now.class.now loaded c.args.coded.now.member.now body c.requires.class c.requires.linked);
      frames = subst (λ (p : List Const). All (HasLinkedEntries w (pool_of p)) body.frames)
          (sym c.as_slice-pool.ensures)
          (frames_there w c.args.coded.now.class.now loaded c.args.coded.now.member.now body c.requires.class c.requires.linked);
      numbers = c.in_ok-numbers.ensures;
    }

pub returns : goal.returns
returns g c = IfOk-weaker c.pass_over.result _ _ (λ passed told.
    let w = c.args.world.now in
    let class = c.args.coded.now.class.now in
    let loaded = c.args.coded.now.loaded.now in
    let member = c.args.coded.now.member.now in
    let body = c.args.coded.now.body.now in
    let types = c.in_ok-types.types in
    let items = loaded.file.pool.items in
    let descriptor = units_at (pool_of items) member.descriptor in
    let spelled : IsMethodType w descriptor types =
    subst (λ (d : List ℕ). IsMethodType w d types)
    (c.text_at.ensures ∙ ap (λ (p : List Const). units_at (pool_of p) member.descriptor) c.as_slice-pool.ensures) c.in_ok-types.ensures in
    let describes : Describes w class (units_at (pool_of items) member.name) types.result body.max_stack c.environment-here.result =
    subst (λ (n : List ℕ). Describes w class n types.result body.max_stack c.environment-here.result)
    (c.text_at-name.ensures ∙ ap (λ (p : List Const). units_at (pool_of p) member.name) c.as_slice-pool.ensures)
    c.environment-here.ensures.describes in
    let e = env w class loaded member body c.requires.class c.requires.linked types spelled in
    let is : IsEnvironment w c.environment-here.result e =
    described w class loaded member body c.requires.class c.requires.linked types spelled c.environment-here.result describes in
    let code : HasMethodCode w _ e = record {
      static = refl;
      has_parameters = record { is_type = spelled.is_type; parameters = ap (map (field_type_of w)) c.as_slice.ensures ∙ spelled.parameters };
      body = ap (λ (p : List Const). named (pool_of p) descriptor (body_of body)) (sym c.as_slice-pool.ensures);
    } in
    let start = c.in_ok-start.ensures.same w e is code in
    passes_as w class loaded member body c.requires.class c.requires.linked types spelled (is_some c.args.kept) passed
    (told e (record { environment = is; code = code; room = sym (c.has_room.ensures w e code start) }) start))
    c.pass_over.ensures
