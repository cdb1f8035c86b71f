-- No command is a move: the call of a command leaves the store in its memory.
use Prim.Native.Nat.{ℕ}
use mathlib.Core.List.{List}
use lib.Dec.{T}
use lib.IntN.{ℤ}
use Rattle.history.specs.Forms.{form_use, in_place}
use Rattle.commands.specs.declared.Read.{Read}
use Rattle.commands.specs.declared.Write.{Write}
use Rattle.commands.specs.declared.Kind.{Kind}
use Rattle.commands.specs.declared.Format.{Format}
use Rattle.commands.specs.Commands.{read_of, write_of, call_of, call_from}

read_in_place : (k : Read) (ns : List ℕ) → T (in_place (form_use (read_of k ns)))
unfolding read_of
read_in_place Read.Latest ns = tt
read_in_place Read.ReadAt ns = tt
read_in_place Read.OwnRead ns = tt
read_in_place Read.ScanRead ns = tt
read_in_place Read.Sum ns = tt
read_in_place Read.PageCell ns = tt
read_in_place Read.Lineage ns = tt
read_in_place Read.KeeperAt ns = tt

write_in_place : (k : Write) (ns : List ℕ) (vs : List ℤ) → T (in_place (form_use (write_of k ns vs)))
unfolding write_of
write_in_place Write.Begin ns vs = tt
write_in_place Write.Insert ns vs = tt
write_in_place Write.Update ns vs = tt
write_in_place Write.Delete ns vs = tt
write_in_place Write.Commit ns vs = tt
write_in_place Write.Abort ns vs = tt
write_in_place Write.Merge ns vs = tt
write_in_place Write.Release ns vs = tt
write_in_place Write.BeginAs ns vs = tt

call_in_place : (k : Kind) (ns : List ℕ) (vs : List ℤ) → T (in_place (form_use (call_of k ns vs)))
unfolding call_of
call_in_place (Kind.Read k) ns vs = read_in_place k ns
call_in_place (Kind.Write k) ns vs = write_in_place k ns vs
call_in_place Kind.OpenScan ns vs = tt
call_in_place Kind.Close ns vs = tt
call_in_place Kind.Crossings ns vs = tt

pub command_in_place : (columns : ℕ) (f : Format) (bs : List ℕ) → T (in_place (form_use (call_from columns f bs)))
unfolding call_from
command_in_place columns f bs = call_in_place f.kind _ _
