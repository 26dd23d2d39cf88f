use Rattle.std.proofs.Common.{false, refl, sym, ◌∙◌}
use Rattle.split_command.proofs.Ending.{begun_pieces}
use Rattle.split_command.proofs.pieces.Pieces.new.Goals as goal

pub returns : goal.returns
returns g c = begun_pieces g.W.Write.contents c.len-parts.result
    (record { splitter = c.in_ok-new.field-0; files = c.in_ok-files.files; line = 2; has_failed = false }) c.in_ok-new.ensures
    (c.in_ok-files.ensures.count ∙ sym (c.len-parts.ensures ∙ c.args.writers.ok.0)) c.in_ok-files.ensures.texts refl
