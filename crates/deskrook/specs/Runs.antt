-- The demands as the exports keep them, for programs in C and Rust: what crates/calls/specs/Runs.antt says of any interface, of replies.
-- proofs/Runs.antt proves them.
use Rattle.std.specs.Prelude.{◌≡◌, ◌⊎◌}
use Rattle.terms.specs.Refusals.{refusal_number}
use Rattle.calls.specs.Runs.{Interface, RefusedSo, RefusedKept, UnmadeKept, ChangedSo, MergedSo, MadeSo, UnmovedKept, MovedSo, UnmovedSo, ReadsSo, PagesSo, OutcomesSo, StruckSame, MinutesSo, ScansSo}
use Rattle.deskrook.specs.declared.reply.Reply.{Reply}
use Rattle.deskrook.specs.Replies.{reply_of, RepliesWith, RepliesMoved, RepliesMade}

-- a reply that is no refusal: its result is 0, or 32 for none
abbrev pub AcceptedReply : Reply → Type 0
AcceptedReply r = (r.result ≡ 0) ⊎ (r.result ≡ 32)

abbrev pub exports : Interface
exports = record { Returned = Reply; returns = reply_of; Refuses = λ r n. r.result ≡ refusal_number n; Accepts = AcceptedReply; gives = RepliesWith; moves = RepliesMoved; makes = RepliesMade }

abbrev pub ExportRefused : Type 0
ExportRefused = RefusedSo exports

abbrev pub ExportKept : Type 0
ExportKept = RefusedKept exports

abbrev pub ExportMakingKept : Type 0
ExportMakingKept = UnmadeKept exports

abbrev pub ExportChanged : Type 0
ExportChanged = ChangedSo exports

abbrev pub ExportMerged : Type 0
ExportMerged = MergedSo exports

abbrev pub ExportMakingChanged : Type 0
ExportMakingChanged = MadeSo exports

abbrev pub ExportMoveKept : Type 0
ExportMoveKept = UnmovedKept exports

abbrev pub ExportMoveChanged : Type 0
ExportMoveChanged = MovedSo exports

abbrev pub ExportMoveRefused : Type 0
ExportMoveRefused = UnmovedSo exports

abbrev pub ExportReads : Type 0
ExportReads = ReadsSo exports

abbrev pub ExportPages : Type 0
ExportPages = PagesSo exports

abbrev pub ExportOutcomes : Type 0
ExportOutcomes = OutcomesSo exports

abbrev pub ExportStriking : Type 0
ExportStriking = StruckSame exports

abbrev pub ExportMinutes : Type 0
ExportMinutes = MinutesSo exports

abbrev pub ExportScans : Type 0
ExportScans = ScansSo exports
