-- How a row ends.
use Rattle.std.specs.Prelude.{◌≡◌, ◌+◌, ◌^◌, ◌-◌, false, min, Result, Ok, IfErr}
use Rattle.counted_devices.specs.declared.read_fault.Stop.TheVariants.{Memory}
use Rattle.counted_devices.specs.declared.write_fault.WriteFault.{WriteFault}
use Rattle.file_format.specs.Faults.{LineStop}
use Rattle.split_command.specs.declared.pieces.Pieces.{Pieces}

-- the row's line was added so: the next row stands on the next line; unless memory is wanted, the
-- row is taken, and a file failed if the line wasn't added
pub record EndsRow {W : Type 0} (old : Pieces W) (added : Result (Unit {0}) WriteFault)
    (answer : Result (Unit {0}) LineStop) (new : Pieces W) : Type 0 where
  pub splitter : new.splitter ≡ old.splitter
  pub files : new.files ≡ old.files
  pub line : new.line ≡ min (old.line + 1) (2 ^ 64 - 1)
  pub failed : answer ≡ Ok tt → new.has_failed ≡ false → (old.has_failed ≡ false) × (added ≡ Ok tt)
  pub memory : IfErr answer (λ stop. stop ≡ Memory)
