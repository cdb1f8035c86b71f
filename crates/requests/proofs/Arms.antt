-- What is due for a request: of a call that is lent no slice, of crossings, and of a call that changes one entry of the list.
use Prim.Native.Nat.{ℕ}
use mathlib.Core.Path.{◌≡◌, refl}
use mathlib.Core.List.{List, []}
use native.Mathlib.Omega.{arith}
use lib.IntN.{ℤ}
use lib.ListN.{length, take, replicate}
use lib.Seq.{take_all}
use mir.Syntax.{w32}
use mir.Val.{to_z}
use Rattle.terms.specs.Measures.{lent_stamps}
use Rattle.std.specs.Prelude.{Result}
use Rattle.terms.specs.Answers.{Answer}
use Rattle.terms.specs.declared.Refusal.{Refusal}
use Rattle.terms.specs.declared.ScanEntry.{ScanEntry}
use Rattle.scans.specs.declared.Scans.{Scans}
use Rattle.scans.specs.Table.{table_of}
use Rattle.history.specs.History.{Call, crossings, none, slice_of, Outcome, given, alone}
use Rattle.promise.specs.Promise.{Serves, ServesBy, Gives, GivesBy, kept}
use Rattle.promise.proofs.Alone.{serves_gives}
use Rattle.upkeep.specs.declared.ListChange.{ListChange}
use Rattle.upkeep.specs.Lists.{answer_in, changed_at}
use Rattle.commands.specs.declared.Kind.{Kind}
use Rattle.commands.specs.declared.Read.{Read}
use Rattle.commands.specs.declared.Write.{Write}
use Rattle.commands.specs.Commands.{first, second, third, fourth, fifth, call_of, read_of, write_of}

-- what is given for the call of a kind is given for a request of that kind
pub asks : (m : List ℕ) (ps : List ScanEntry) (kind k : Kind) (ns : List ℕ) (vs : List ℤ) (o : Outcome Answer) (m' : List ℕ) (ps' : List ScanEntry) → kind ≡ k
    → Gives m ps (call_of k ns vs) o m' ps' → Gives m ps (call_of kind ns vs) o m' ps'
asks m ps kind k ns vs o m' ps' e h = rw e h

-- ---- a call that is lent no slice: its answer is all that it gives
pub read_unlent : (k : Read) (ns : List ℕ) → slice_of (read_of k ns) ≡ none
unfolding read_of
read_unlent Read.Latest ns = refl
read_unlent Read.ReadAt ns = refl
read_unlent Read.OwnRead ns = refl
read_unlent Read.ScanRead ns = refl
read_unlent Read.Sum ns = refl
read_unlent Read.PageCell ns = refl
read_unlent Read.Lineage ns = refl
read_unlent Read.KeeperAt ns = refl

pub write_unlent : (k : Write) (ns : List ℕ) (vs : List ℤ) → slice_of (write_of k ns vs) ≡ none
unfolding write_of
write_unlent Write.Begin ns vs = refl
write_unlent Write.Insert ns vs = refl
write_unlent Write.Update ns vs = refl
write_unlent Write.Delete ns vs = refl
write_unlent Write.Commit ns vs = refl
write_unlent Write.Abort ns vs = refl
write_unlent Write.Merge ns vs = refl
write_unlent Write.Release ns vs = refl
write_unlent Write.BeginAs ns vs = refl

pub unlent : (m : List ℕ) (ps : List ScanEntry) (x : Call) (r : Answer) (o : Outcome Answer) (m' : List ℕ) (ps' : List ScanEntry) → o ≡ alone r → slice_of x ≡ none
    → Serves m ps x r m' ps' → Gives m ps x o m' ps'
unlent m ps x r o m' ps' e z h = rw e (serves_gives m ps x r m' ps' z h)

-- ---- crossings: of the slice every place is lent
pub all_lent : (t : Scans) (m : List ℕ) (ns : List ℕ) (mark : ℤ) (r : Answer) (stamps : List ℕ) → mark ≡ to_z w32 (third ns) → length stamps ≡ lent_stamps
    → GivesBy t m (crossings (first ns) (second ns) mark (fourth ns) (fifth ns) (replicate lent_stamps 0)) (given r stamps) m kept
    → GivesBy t m (call_of Kind.Crossings ns []) (given r (take lent_stamps stamps)) m kept
unfolding call_of
all_lent t m ns mark r stamps e l h = rw (take_all lent_stamps stamps (omega arith), ← e) h

-- ---- the list of open scans
-- a call that changes one entry of the list, which is written back
pub listed : (m : List ℕ) (t : Scans) (x : Call) (r : Result ListChange Refusal) (m' : List ℕ) (ps ps' : List ScanEntry) → ServesBy t m x (answer_in r) m' (changed_at r)
    → ps' ≡ changed_at r ps → t ≡ table_of ps → Serves m ps x (answer_in r) m' ps'
unfolding ServesBy
listed m t x r m' ps ps' h e z = rw e (h ps z)

-- what is due for the call that an arm makes is due for the kind of the arm
pub write_arm : (t : Scans) (m : List ℕ) (kind k : Write) (ns : List ℕ) (vs : List ℤ) (r : Answer) (m' : List ℕ) → kind ≡ k
    → ServesBy t m (write_of k ns vs) r m' kept → ServesBy t m (write_of kind ns vs) r m' kept
write_arm t m kind k ns vs r m' e h = rw e h

-- a call that leaves the list, over the table of the list
pub tabled : (m : List ℕ) (t : Scans) (x : Call) (r : Answer) (m' : List ℕ) (ps : List ScanEntry) → ServesBy t m x r m' kept → t ≡ table_of ps → Serves m ps x r m' ps
unfolding ServesBy
tabled m t x r m' ps h e = h ps e

pub tabled_given : (m : List ℕ) (t : Scans) (x : Call) (o : Outcome Answer) (m' : List ℕ) (ps : List ScanEntry) → GivesBy t m x o m' kept → t ≡ table_of ps → Gives m ps x o m' ps
unfolding GivesBy
tabled_given m t x o m' ps h e = h ps e
