-- Texts of a script's run.
use Rattle.std.proofs.Common.{ℕ, ◌≡◌, true, false, List, Result, Ok, Err, MatchResult, IfOk, IfErr, is_ok, sym, ap, ◌∙◌, subst}
use Rattle.world_steps.specs.Systems.{opening}
use Rattle.world_steps.specs.declared.system.System.{System}
use Rattle.recorder.specs.Histories.{Recorded}
use Rattle.recorder.specs.Records.{IsPart}
use Rattle.recorder.specs.Sound.{TagSound}
use Rattle.recorder.specs.declared.part.Call.{Call}
use Rattle.recorder.specs.declared.row.Row.{Row}
use Rattle.counted_devices.specs.Deliveries.{ReadsFrom}
use Rattle.counted_devices.specs.DeviceStates.{DeviceStates}
use Rattle.file_format.specs.ReadAgain.{IsTextOf}
use Rattle.file_format.specs.Texts.{history_text}
use Rattle.fault_script.specs.Faults.{ScriptError}
use Rattle.fault_script.specs.Scripts.{IsScript}
use Rattle.fault_script.specs.ScriptRuns.{RunsAll}
use Rattle.fault_script.specs.Simulations.{IsSoundRun, Simulates}
use Rattle.script_runs.specs.declared.command.Script.{Script}

-- the run of all commands, and the text of its record
pub run_of : (script : Script) (last : System) (messages : List ℕ) (history : Recorded) (text : List ℕ)
    → RunsAll (opening script.config) script.commands.items last messages
    → history ≡ last.history → ((key : List ℕ) (part : List Call) → IsPart last.history.rows key part → TagSound part)
    → text ≡ history_text history.rows → IsTextOf text history.rows
    → (rows : List Row) × IsSoundRun script rows messages × (text ≡ history_text rows)
run_of script last messages history text runs is sound written read =
    let P : List ℕ → Type 0 = λ t. IsTextOf t history.rows in
    let Q : Recorded → Type 0 = λ h. (key : List ℕ) (part : List Call) → IsPart h.rows key part → TagSound part in (
      history.rows,
      record {
        run = record { last = last; runs = runs; recorded = ap (λ (h : Recorded). h.rows) (sym is) };
        text = subst P written read;
        sound = subst Q (sym is) sound;
      },
      written,
    )

abbrev ok : {T D : Type 0} → T → Result T D
ok x = Ok x

-- what was parsed, where the error was named anew
pub parsed : {T E D : Type 0} (r : Result T E) (s : Result T D) (x : T) (P : T → Type 0) (Q : E → Type 0)
    → MatchResult r (λ y. s ≡ Ok y) Q → is_ok s ≡ is_ok r → s ≡ Ok x → IfOk r P → P x
parsed {T} {E} {D} (Ok y) s x P Q cases same was h =
    let both : ok {T = T} {D = D} y ≡ ok x = sym cases ∙ was in
    let one : y ≡ x = cc in
    subst P one h
parsed {T} {E} {D} (Err e) s x P Q cases same was h =
    let no : true ≡ false = sym (ap (is_ok {T = T} {E = D}) was) ∙ same in
    absurd cc

-- a script that was read, the texts of its run, and what holds of them
pub simulated : {reader : DeviceStates} {P : List ℕ → List ℕ → Type 0} (script : Script) (messages text : List ℕ)
    → ReadsFrom IsScript reader script
    → (rows : List Row) × IsSoundRun script rows messages × (text ≡ history_text rows) → P messages text → Simulates reader P
simulated {reader} {P} script messages text read (rows, run, is) fact = record {
  script = script;
  read = read;
  rows = rows;
  messages = messages;
  run = run;
  fact = subst (P messages) is fact;
}

-- the same of a script that was parsed, where the error was named anew
pub run_parsed : {D : Type 0} {P : List ℕ → List ℕ → Type 0} (reader : DeviceStates) (r : Result Script ScriptError) (s : Result Script D)
    (script : Script) (messages text : List ℕ) (Q : ScriptError → Type 0) → MatchResult r (λ y. s ≡ Ok y) Q → is_ok s ≡ is_ok r
    → s ≡ Ok script → IfOk r (ReadsFrom IsScript reader) → (rows : List Row) × IsSoundRun script rows messages × (text ≡ history_text rows)
    → P messages text → Simulates reader P
run_parsed {D} {P} reader r s script messages text Q cases same was read run fact =
    simulated {reader = reader} {P = P} script messages text (parsed r s script (ReadsFrom IsScript reader) Q cases same was read) run fact

-- what holds after every error holds after this one
pub begun_at : {T E P : Type 0} (r : Result T E) (error : E) → r ≡ Err error → IfErr r (λ e. P) → P
begun_at {T} {E} {P} r error is h = let Q : Result T E → Type 0 = λ x. IfErr x (λ e. P) in subst Q is h
