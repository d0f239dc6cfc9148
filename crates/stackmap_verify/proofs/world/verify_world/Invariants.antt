use Rattle.stackmap_verify.proofs.world.verify_world.Given as goal

-- the ledger is that of the blank
abbrev pub ghosts-verify_classes : goal.ghosts-verify_classes
ghosts-verify_classes a = record { name = a.blank.name; parts = a.blank.parts }
