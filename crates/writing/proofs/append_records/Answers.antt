-- An update appends two records where it sets a column for the first time, and else one.
use Rattle.std.proofs.Common.{◌≡◌}
use Rattle.layout.specs.View.{view_of}
use Rattle.model.specs.Preconditions.{shape_in}
use Rattle.writing.specs.Steps.{original_put}
use Rattle.writing.proofs.Steps.{room_one, original_room, records_one, records_two}
use Rattle.writing.proofs.append_records.Goals.{then-fresh-ne0, else-fresh-ne0}
use Rattle.writing.proofs.append_records.Goals as goal

pub append_original-requires-clause-room : goal.append_original-requires-clause-room
append_original-requires-clause-room c = search room_one

pub append_setting-requires-clause-room : goal.append_setting-requires-clause-room
append_setting-requires-clause-room c =
    elim c.if-fresh-ne0.branch [
      | then-fresh-ne0 w ↦
          let original : view_of c.args.s c.if-fresh-ne0.mem ≡ original_put (shape_in c.args.s) c.args.t.0 c.args.row.0 c.new_bits-fresh.result (view_of c.args.s c.args.mem.now) =
          rw w.mem-is w.append_original.ensures in
          original_room _ _ _ _ _ _ _ _ original c.read.ensures c.new_bits-fresh.ensures w.if-fresh-ne0.true c.requires.suffices c.requires.proper.0 c.requires.room
      | else-fresh-ne0 w ↦ rw w.mem-is (search room_one)
    ]

pub returns : goal.returns
returns c =
    elim c.if-fresh-ne0.branch [
      | then-fresh-ne0 w ↦
          let original : view_of c.args.s c.if-fresh-ne0.mem ≡ original_put (shape_in c.args.s) c.args.t.0 c.args.row.0 c.new_bits-fresh.result (view_of c.args.s c.args.mem.now) =
          rw w.mem-is w.append_original.ensures in
          records_two _ _ _ _ _ c.read.ensures c.new_bits-fresh.ensures w.if-fresh-ne0.true _ _ _ _ _ _ original c.append_setting.ensures
      | else-fresh-ne0 w ↦ records_one _ _ _ _ _ c.read.ensures c.new_bits-fresh.ensures _ _ _ _ _ (rw w.mem-is at c.append_setting.ensures) w.if-fresh-ne0.false
    ]
