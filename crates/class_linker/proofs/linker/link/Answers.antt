use Rattle.std.proofs.Common.{Ok, map, ap, sym, subst, ◌∙◌, bytes_eq}
use Rattle.std.specs.List.{IsDistinct}
use Rattle.world_model.specs.World.{World}
use Rattle.jv_types.specs.Loaded.{loaded_of}
use Rattle.jv_types.specs.Refusal.{cause_of}
use Rattle.class_world.specs.World.{names_of, IsAcyclic, HaveMembersOnce}
use Rattle.class_linker.specs.Linking.{own_fault, use_fault_of}
use Rattle.class_linker.proofs.FirstFault.{own_none, own_refused, cycle_refused, use_refused, none_refused}
use Rattle.class_linker.proofs.Programs.{names_apart, members_once, none_above_itself}
use Rattle.class_linker.proofs.Told.{some_told, none_told, lent_world, cycles_told}
use Rattle.class_linker.proofs.linker.link.Goals as goal

pub returns-in-Some : goal.returns-in-Some
returns-in-Some c =
    let own = c.in_ok-cause.ensures ∙ ap (λ l. own_fault (map loaded_of l)) c.as_slice-classes.ensures in
    own_refused (map loaded_of c.args.classes.now.items) c.args.main.now.items (cause_of c.in-Some.cause) (some_told _ _ _ c.in-Some.is own)

pub number_classes-requires-clause-apart : goal.number_classes-requires-clause-apart
number_classes-requires-clause-apart c =
    let own = c.in_ok-cause.ensures ∙ ap (λ l. own_fault (map loaded_of l)) c.as_slice-classes.ensures in
    let loaded = map loaded_of c.args.classes.now.items in
    let free = own_none loaded (none_told _ _ c.in_default.is own) in
    subst (λ (w : World). IsDistinct bytes_eq (names_of w))
    (sym (lent_world c.args.boot.now.items _ c.args.classes.now.items _ c.requires c.as_slice-boot.ensures c.as_slice-classes.ensures))
    (names_apart loaded free.0 free.1)

pub returns-in-Some-2 : goal.returns-in-Some-2
returns-in-Some-2 c =
    let own = c.in_ok-cause.ensures ∙ ap (λ l. own_fault (map loaded_of l)) c.as_slice-classes.ensures in
    let is = c.in_ok-numbered.ensures.world_is
    ∙ lent_world c.args.boot.now.items _ c.args.classes.now.items _ c.requires c.as_slice-boot.ensures c.as_slice-classes.ensures in
    cycle_refused (map loaded_of c.args.classes.now.items) c.args.main.now.items (cause_of c.in-Some-2.cause) (none_told _ _ c.in_default.is own)
    (some_told _ _ _ c.in-Some-2.is (cycles_told _ _ _ _ c.as_slice.ensures is c.in_ok-cause-2.ensures))

pub of-requires-clause-acyclic : goal.of-requires-clause-acyclic
of-requires-clause-acyclic c =
    let is = c.in_ok-numbered.ensures.world_is
    ∙ lent_world c.args.boot.now.items _ c.args.classes.now.items _ c.requires c.as_slice-boot.ensures c.as_slice-classes.ensures in
    subst IsAcyclic (sym is)
    (none_above_itself (map loaded_of c.args.classes.now.items)
    (sym (none_told _ _ c.in_default-2.is (cycles_told _ _ _ _ c.as_slice.ensures is c.in_ok-cause-2.ensures))))

pub of-requires-clause-once : goal.of-requires-clause-once
of-requires-clause-once c =
    let own = c.in_ok-cause.ensures ∙ ap (λ l. own_fault (map loaded_of l)) c.as_slice-classes.ensures in
    let loaded = map loaded_of c.args.classes.now.items in
    let is = c.in_ok-numbered.ensures.world_is
    ∙ lent_world c.args.boot.now.items _ c.args.classes.now.items _ c.requires c.as_slice-boot.ensures c.as_slice-classes.ensures in
    subst HaveMembersOnce (sym is) (members_once loaded (own_none loaded (none_told _ _ c.in_default.is own)).1)

pub returns-in-Some-3 : goal.returns-in-Some-3
returns-in-Some-3 c =
    let own = c.in_ok-cause.ensures ∙ ap (λ l. own_fault (map loaded_of l)) c.as_slice-classes.ensures in
    let is = c.in_ok-numbered.ensures.world_is
    ∙ lent_world c.args.boot.now.items _ c.args.classes.now.items _ c.requires c.as_slice-boot.ensures c.as_slice-classes.ensures in
    let uses = c.in_ok-cause-3.ensures ∙ ap (λ (w : World). use_fault_of w c.args.main.now.items) (c.in_ok-world.ensures ∙ is) in
    use_refused (map loaded_of c.args.classes.now.items) c.args.main.now.items (cause_of c.in-Some-3.cause) (none_told _ _ c.in_default.is own)
    (none_told _ _ c.in_default-2.is (cycles_told _ _ _ _ c.as_slice.ensures is c.in_ok-cause-2.ensures)) (some_told _ _ _ c.in-Some-3.is uses)

pub returns : goal.returns
returns c =
    let own = c.in_ok-cause.ensures ∙ ap (λ l. own_fault (map loaded_of l)) c.as_slice-classes.ensures in
    let is = c.in_ok-numbered.ensures.world_is
    ∙ lent_world c.args.boot.now.items _ c.args.classes.now.items _ c.requires c.as_slice-boot.ensures c.as_slice-classes.ensures in
    let uses = c.in_ok-cause-3.ensures ∙ ap (λ (w : World). use_fault_of w c.args.main.now.items) (c.in_ok-world.ensures ∙ is) in
    none_refused (map loaded_of c.args.classes.now.items) c.args.main.now.items (none_told _ _ c.in_default.is own)
    (none_told _ _ c.in_default-2.is (cycles_told _ _ _ _ c.as_slice.ensures is c.in_ok-cause-2.ensures)) (none_told _ _ c.in_default-3.is uses)
    ∙ sym (ap (λ (w : World). Ok w) (c.in_ok-world.ensures ∙ is))
