use Rattle.std.proofs.Common.{map, ap, sym, subst, ◌∙◌}
use Rattle.class_world.specs.Parts.{parts_of}
use Rattle.class_world.specs.World.{names_of, IsAcyclic, HaveMembersOnce}
use Rattle.class_world.proofs.Parts.{same_world, same_infos, keeps_infos}
use Rattle.class_world.proofs.world.World.copy.Goals as goal

pub of-requires-clause-infos : goal.of-requires-clause-infos
of-requires-clause-infos c =
    same_infos c.self.inside.classes.items c.in_ok-classes.classes.items (c.in_ok-classes.ensures ∙ ap (map parts_of) c.as_slice.ensures)
    (keeps_infos _ _ _ _ _ c.self.invariant)

pub of-requires-clause-names : goal.of-requires-clause-names
of-requires-clause-names c =
    let same = same_world c.self.inside.classes.items c.in_ok-classes.classes.items (c.in_ok-classes.ensures ∙ ap (map parts_of) c.as_slice.ensures) in
    c.in_ok-names.ensures ∙ c.self.invariant.names_are ∙ ap names_of (sym same)

pub of-requires-clause-acyclic : goal.of-requires-clause-acyclic
of-requires-clause-acyclic c =
    subst IsAcyclic (sym (same_world c.self.inside.classes.items c.in_ok-classes.classes.items (c.in_ok-classes.ensures ∙ ap (map parts_of) c.as_slice.ensures)))
    c.self.invariant.acyclic

pub of-requires-clause-once : goal.of-requires-clause-once
of-requires-clause-once c =
    subst HaveMembersOnce (sym (same_world c.self.inside.classes.items c.in_ok-classes.classes.items (c.in_ok-classes.ensures ∙ ap (map parts_of) c.as_slice.ensures)))
    c.self.invariant.once

pub returns : goal.returns
returns c =
    c.in_ok-world.ensures
    ∙ same_world c.self.inside.classes.items c.in_ok-classes.classes.items (c.in_ok-classes.ensures ∙ ap (map parts_of) c.as_slice.ensures)
    ∙ c.self.view_is
