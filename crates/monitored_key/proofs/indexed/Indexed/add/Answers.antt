use Rattle.std.proofs.Common.{inl, subst}
use Rattle.kept_writers.specs.Candidates.{begin_at}
use Rattle.monitored_key.specs.Indexed.{write_in, owner_in, values_in}
use Rattle.key_monitor.specs.KeptWrites.{KeptWrite}
use Rattle.monitored_key.specs.Maps.{Sets, entry_at, text_at}
use Rattle.monitored_key.proofs.Finding.{is_new}
use Rattle.monitored_key.proofs.Indexing.{by_sets, indexed_added}
use Rattle.monitored_key.proofs.Maps.{sets_entry, there}
use Rattle.monitored_key.proofs.indexed.Indexed.add.Goals as goal

pub add_writer-requires : goal.add_writer-requires
add_writer-requires c =
    let s = c.args.self.now in
    λ w at. is_new (write_in s) (values_in s) (owner_in s) c.requires.fit c.args.number c.requires.new c.args.text.now w at

pub returns-clause-fit : goal.returns-clause-fit
returns-clause-fit c =
    let s = c.args.self.now in
    let text = c.args.text.now in
    let a = c.in_ok-add_writer.ensures in
    let values = text_at c.add_writer.new.values in
    let b = by_sets (values_in s) text values a.0 (inl (
      c.args.number,
      there (begin_at a.0.begins c.args.number) c.args.place
          a.1.here,
    )) a.2 in
    let writes = entry_at c.insert.new.self.entries in
    let put = sets_entry s.by_number c.insert.new.self c.args.number c.in_ok-begun.field-0 c.in_ok-insert.ensures.updates in
    indexed_added (write_in s) (values_in s) (owner_in s) c.requires.fit c.args.number c.args.place text c.requires.new a.0 a.1 values b
    writes
    (subst (λ (k : KeptWrite). Sets (write_in s) c.args.number k writes) c.in_ok-begun.ensures put)
