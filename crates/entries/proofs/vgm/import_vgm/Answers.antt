-- The answer is `import_log`'s, packed. Assumes nothing.
use Rattle.entries.proofs.vgm.import_vgm.Goals as goal

pub returns : goal.returns
returns c =
    let import-log = c.import_log in
    let answer = import-log.ensures in
    record { value = rw (c.pack_import.ensures, answer.value); log_after = rw answer.value at answer.log_after }
