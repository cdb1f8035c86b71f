-- The demands of the exports: a reply tells the answer of the call that the export hands on to.
use mathlib.Core.Path.{ap}
use Rattle.terms.specs.Answers.{Answer}
use Rattle.calls.proofs.Runs.{Faithful, refused_so, refused_kept, unmade_kept, changed_so, merged_so, made_so, unmoved_kept, moved_so, unmoved_so, reads_so, pages_so, outcomes_so, struck_same, minutes_so, scans_so}
use Rattle.deskrook.specs.Replies.{reply_of, RepliesWith, RepliesMoved, RepliesMade}
use Rattle.deskrook.specs.Runs.{exports, ExportRefused, ExportKept, ExportMakingKept, ExportChanged, ExportMerged, ExportMakingChanged, ExportMoveKept, ExportMoveChanged, ExportMoveRefused, ExportReads, ExportPages, ExportOutcomes, ExportStriking, ExportMinutes, ExportScans}
use Rattle.deskrook.proofs.Results.{refused_result, accepted_result}

faithful : Faithful exports
unfolding RepliesWith RepliesMoved RepliesMade
faithful =
    record {
      served = λ s. s;
      moving = λ s. s;
      making = λ s. s;
      refusing = λ a n. (refused_result a n, ap (λ (x : Answer). (reply_of x).result));
      accepting = accepted_result;
    }

pub export_refused : ExportRefused
export_refused = refused_so exports faithful

pub export_kept : ExportKept
export_kept = refused_kept exports faithful

pub export_making_kept : ExportMakingKept
export_making_kept = unmade_kept exports faithful

pub export_changed : ExportChanged
export_changed = changed_so exports faithful

pub export_merged : ExportMerged
export_merged = merged_so exports faithful

pub export_making_changed : ExportMakingChanged
export_making_changed = made_so exports faithful

pub export_move_kept : ExportMoveKept
export_move_kept = unmoved_kept exports faithful

pub export_move_changed : ExportMoveChanged
export_move_changed = moved_so exports faithful

pub export_move_refused : ExportMoveRefused
export_move_refused = unmoved_so exports faithful

pub export_reads : ExportReads
export_reads = reads_so exports faithful

pub export_pages : ExportPages
export_pages = pages_so exports faithful

pub export_outcomes : ExportOutcomes
export_outcomes = outcomes_so exports faithful

pub export_striking : ExportStriking
export_striking = struck_same exports faithful

pub export_minutes : ExportMinutes
export_minutes = minutes_so exports faithful

pub export_scans : ExportScans
export_scans = scans_so exports faithful
