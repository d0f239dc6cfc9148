use Rattle.stackmap_verify.proofs.typing.verify_method.Given as goal

-- the ledger is that of the blank
abbrev pub ghosts-type_method_at : goal.ghosts-type_method_at
ghosts-type_method_at a = record { name = a.blank.name; parts = a.blank.parts }
