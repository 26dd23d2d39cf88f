use Rattle.split_command.proofs.Filling.{same_writers}
use Rattle.split_command.proofs.piece_files.PieceFiles.finish.Goals as goal

pub returns-clause-texts : goal.returns-clause-texts
returns-clause-texts g c = λ texts held.
    let writers = c.args.self.writers in
    same_writers g.W.Write.contents writers.items c.write_all.new.writers writers.len texts writers.ok.0
    (rw c.as_mut_slice.ensures.value at c.in_ok-write_all.ensures.same)
    ((rw (c.as_mut_slice.ensures.value, c.as_slice.ensures.value) at c.in_ok-write_all.ensures.texts) texts held)
