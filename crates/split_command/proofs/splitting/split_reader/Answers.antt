use Rattle.std.proofs.Common.{ℕ, ◌≡◌, length, subst, ◌∙◌}
use Rattle.counted_devices.specs.DeviceStates.{states}
use Rattle.split_command.specs.Endings.{EndsIn}
use Rattle.split_command.proofs.Loop.{ends_in, not_split}
use Rattle.split_command.proofs.splitting.split_reader.Goals as goal

pub returns-in-Ok-split_blocks : goal.returns-in-Ok-split_blocks
returns-in-Ok-split_blocks g c =
    let reader = states g.R.Read.remaining g.R.Counted.failures c.args.reader.now c.split_blocks.new.reader in
    let parts : c.len-parts.result ≡ length c.args.writers.items = c.len-parts.ensures ∙ c.args.writers.ok.0 in
    subst (λ (n : ℕ). EndsIn g.W.Write.contents n reader c.end.result) parts
    (ends_in g.W.Write.contents reader c.split_blocks.new.feed c.len-parts.result c.end.result c.in-Ok-split_blocks.ensures c.end.ensures)

pub returns : goal.returns
returns g c =
    let reader = states g.R.Read.remaining g.R.Counted.failures c.args.reader.now c.split_blocks.new.reader in
    not_split g.W.Write.contents reader c.split_blocks.new.feed (length c.args.writers.items) c.in-Err.stopped c.in-Err.ensures
