-- Whatever is tried has one row.
use Rattle.std.proofs.Common.{ℕ, zero, suc, ◌≡◌, ◌<◌, List, [], ◌∷◌, ◌++◌, map, flat_map, length, get_or, Option, Some}
use Rattle.std.proofs.Common.{refl, sym, ap, ◌∙◌, subst, append-nil, append_assoc, arith}
use Rattle.std.specs.List.{Contains}
use Rattle.std.proofs.lemmas.List.{map-append}
use Rattle.std.proofs.lemmas.List.Elements.{Contains-append_left, Contains-append_right}
use Rattle.world_settle.specs.declared.errors.SettleError.{SettleError}
use Rattle.world_steps.specs.Refusals.{refusal_of}
use Rattle.world_steps.specs.declared.refusal.Refusal.{Refusal}
use Rattle.world_steps.specs.declared.step.Step.{Step}
use Rattle.world_steps.specs.declared.system.System.{System}
use Rattle.script_runs.specs.Events.{Event, notices, tries}
use Rattle.script_runs.specs.declared.notice.Notice.TheVariants as notice
use Rattle.script_runs.specs.declared.origin.Origin.{Origin}
use Rattle.message_scenes.specs.Shapes.{Shapes, row_of, with_row, with_rows, with_step}
use Rattle.message_scenes.specs.Tried.{Tried, refused, took, tried_in, tried_of, tried_unless, unfinished}
use Rattle.message_scenes.specs.declared.scene.StepRow.{StepRow}

-- one row more
row_more : (shapes : Shapes) (one : Tried) → (with_row shapes one).rows ≡ shapes.rows ++ row_of one ∷ []
unfolding with_step
row_more shapes (took t) = refl
row_more shapes (refused origin step why) = refl
row_more shapes (unfinished line name why) = refl

pub rows_tried : (shapes : Shapes) (tried : List Tried) → (with_rows shapes tried).rows ≡ shapes.rows ++ map row_of tried
rows_tried shapes [] = sym (append-nil shapes.rows)
rows_tried shapes (one ∷ tried) =
    rows_tried (with_row shapes one) tried ∙ ap (λ (rows : List StepRow). rows ++ map row_of tried) (row_more shapes one)
    ∙ append_assoc shapes.rows (row_of one ∷ []) (map row_of tried)

-- the rows of all that happens have those of one event
one_of : (events : List Event) (event : Event) (row : StepRow) (k : ℕ) → k < length events → get_or events k event ≡ event
    → Contains (map row_of (tried_in event)) row → Contains (map row_of (flat_map tried_in events)) row
one_of [] event row k inside at has = absurd (omega (arith, inside))
one_of (x ∷ events) event row zero inside at has =
    subst (λ (rows : List StepRow). Contains rows row) (sym (map-append row_of (tried_in x) (flat_map tried_in events)))
    (Contains-append_left (map row_of (tried_in x)) (map row_of (flat_map tried_in events)) row
    (subst (λ (e : Event). Contains (map row_of (tried_in e)) row) (sym at) has))
one_of (x ∷ events) event row (suc k) inside at has =
    subst (λ (rows : List StepRow). Contains rows row) (sym (map-append row_of (tried_in x) (flat_map tried_in events)))
    (Contains-append_right (map row_of (tried_in x)) (map row_of (flat_map tried_in events)) row
    (one_of events event row k (omega (arith, inside)) at has))

-- a row alone
alone : (row : StepRow) → Contains (row ∷ []) row
alone row = (0, omega arith, refl)

pub refused_row : (events : List Event) (origin : Origin) (s : System) (step : Step) (why : Refusal) → Contains events (tries origin s step)
    → refusal_of s step ≡ Some why → Contains (map row_of (flat_map tried_in events)) (row_of (refused origin step why))
unfolding tried_of
refused_row events origin s step why has is =
    let row = row_of (refused origin step why) in
    one_of events (tries origin s step) row has.0 has.1 has.2
    (subst (λ (found : Option Refusal). Contains (row_of (tried_unless origin s step found) ∷ []) row) (sym is) (alone row))

pub unfinished_row : (events : List Event) (line name : ℕ) (why : SettleError) → Contains events (notices line (notice.Unfinished name why))
    → Contains (map row_of (flat_map tried_in events)) (row_of (unfinished line name why))
unfinished_row events line name why has =
    let row = row_of (unfinished line name why) in
    one_of events (notices line (notice.Unfinished name why)) row has.0 has.1 has.2 (alone row)
