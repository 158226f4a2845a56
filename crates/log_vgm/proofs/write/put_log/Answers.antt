-- The opening and the commands' records are one run of stores. Assumes nothing.
use mathlib.Core.Path.{ap, ◌∙◌}
use mathlib.Core.List.{List}
use Prim.Native.Nat.{ℕ}
use lib.Seq.{sets}
use Rattle.log_vgm.specs.Commands.{commands_from}
use Rattle.log_vgm.specs.Log.{bytes_on, opening}
use Rattle.log_vgm.proofs.Putting.{part_put, front_append, opening_fits}
use Rattle.log_vgm.proofs.write.put_log.Goals as goal

pub returns : goal.returns
returns c =
    let rest = bytes_on c.args.from.clockwork (commands_from c.args.vgm.now c.args.from.at) in
    let fits = (opening_fits rest _ c.requires).1 in
    part_put c.put_opening.new.out 8 rest (rw c.put_opening.auto.out fits) c.put_commands.ensures
    ∙ ap (λ (l : List ℕ). sets l 8 rest) c.put_opening.ensures
    ∙ front_append c.args.out.now opening rest
