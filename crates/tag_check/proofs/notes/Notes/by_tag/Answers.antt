use Rattle.std.proofs.Common.{length}
use Rattle.tag_check.specs.Writes.{AreEntries}
use Rattle.tag_check.proofs.ByTag.{noted_moved, own_of_rising}
use Rattle.tag_check.proofs.notes.Notes.by_tag.Goals as goal

pub returns-then-are_rising : goal.returns-then-are_rising
returns-then-are_rising c =
    let calls = c.args.self.now.part.now in
    let noted = c.sort_by_tag.new.noted.items in
    let entries : AreEntries calls noted = record { each = noted_moved calls (length calls) c.args.noted.items noted c.sort_by_tag.ensures.moved c.requires; by_tag = c.sort_by_tag.ensures.by_tag } in
    let rising = rw c.as_slice.ensures.value at (c.are_rising.ensures c.if-are_rising.true) in
    record { entries = entries; own = own_of_rising calls noted entries rising }

pub first_shared-requires : goal.first_shared-requires
first_shared-requires c =
    let calls = c.args.self.now.part.now in
    rw c.as_slice-2.ensures.value (record { each = noted_moved calls (length calls) c.args.noted.items c.sort_by_tag.new.noted.items c.sort_by_tag.ensures.moved c.requires; by_tag = c.sort_by_tag.ensures.by_tag })

pub returns-in-None : goal.returns-in-None
returns-in-None c =
    let calls = c.args.self.now.part.now in
    record {
      entries = record { each = noted_moved calls (length calls) c.args.noted.items c.sort_by_tag.new.noted.items c.sort_by_tag.ensures.moved c.requires; by_tag = c.sort_by_tag.ensures.by_tag };
      own = c.in-None.ensures;
    }
