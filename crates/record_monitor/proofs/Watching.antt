-- What is known of one key, by a row of another key and by another's read that is given up.
use Rattle.std.proofs.Common.{ℕ, ◌≢◌, ◌≤◌, inr, List, [], ◌∷◌, ◌++◌, Bool, arith}
use Rattle.std.specs.List.{Contains}
use Rattle.tag.specs.Tags.{Tag}
use Rattle.tag.specs.declared.actions.Action.TheVariants.{Read}
use Rattle.tag.specs.declared.numbers.OpId.{OpId}
use Rattle.recorder.specs.declared.row.Row.{Row}
use Rattle.recorder.specs.declared.row.Row.TheVariants.{Invoke, Note}
use Rattle.recorder.specs.Histories.{call_count, IsWellFormed, MayFollow}
use Rattle.growing_parts.specs.PartsWithout.{IsRowOutside}
use Rattle.growing_parts.proofs.Leaving.{without_other}
use Rattle.growing_parts.proofs.NextParts.{outside, stays}
use Rattle.growing_parts.proofs.Staying.{note_changes_none}
use Rattle.monitored_key.specs.Held.{Held}
use Rattle.record_monitor.specs.Followed.{IsFollowed}
use Rattle.record_monitor.proofs.Counting.{count_push, one_longer}

module _ (rows : List Row) (formed : IsWellFormed rows) (key gone : List ℕ) (doubt : Bool) (held : Held)
    (f : IsFollowed rows key gone doubt held) where
  -- a row more leaves the number of the calls or raises it
  still_below : (row : Row) → held.number ≤ call_count (rows ++ row ∷ [])
  still_below row = omega (arith, f.number, count_push rows row)

  pub other_row : (row : Row) → MayFollow rows row → IsRowOutside rows key gone row → IsFollowed (rows ++ row ∷ []) key gone doubt held
  other_row row may out = record {
    part = f.part;
    is = stays rows formed key gone f.part f.is row may out;
    source = f.source;
    row = f.row;
    next = f.next;
    early = omega (arith, f.early, one_longer rows row);
    number = still_below row;
    kept = f.kept;
    follows = f.follows;
    decided = f.decided;
  }

  pub noted : (op : OpId) (tag : Tag) → MayFollow rows (Note op tag) → IsFollowed (rows ++ Note op tag ∷ []) key gone doubt held
  noted op tag may =
      let h = note_changes_none rows formed key gone f.part f.is op tag may in
      record {
        part = h.after;
        is = h.part;
        source = f.source;
        row = f.row;
        next = f.next;
        early = omega (arith, f.early, one_longer rows (Note op tag));
        number = still_below (Note op tag);
        kept = f.kept;
        follows = h.kept f.source f.row _ f.follows;
        decided = λ e. h.all_read f.row f.source f.follows.follows.judged (f.decided e);
      }

  -- a read of another key that is given up
  pub other_given_up : (op : OpId) (client : ℕ) (other : List ℕ) → Contains rows (Invoke op client other Read) → other ≢ key
      → IsFollowed rows key (op.0 ∷ gone) doubt held
  other_given_up op client other begun apart = record {
    part = f.part;
    is = without_other rows key gone f.part f.is op (outside rows formed key gone f.part f.is op (inr (client, other, Read, apart, begun)));
    source = f.source;
    row = f.row;
    next = f.next;
    early = f.early;
    number = f.number;
    kept = f.kept;
    follows = f.follows;
    decided = f.decided;
  }
