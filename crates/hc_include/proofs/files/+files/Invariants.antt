use Rattle.hc_include.proofs.Common.{◌+◌, ◌*◌, drop, Leads, run, shown_by, in_order, line_read, reader_in}
use Rattle.hc_include.specs.Counting.{Rose}
use Rattle.hc_include.proofs.files.+files.Given as goal

abbrev pub decreases-read_file : goal.decreases-read_file
decreases-read_file g l = 7 * l.around.now.room + 6

abbrev pub decreases-read_found : goal.decreases-read_found
decreases-read_found g l = 7 * l.around.now.room + 5

abbrev pub decreases-read_text : goal.decreases-read_text
decreases-read_text g l = 7 * l.around.now.room + 4

abbrev pub decreases-read_lines : goal.decreases-read_lines
decreases-read_lines g l = 7 * l.around.now.room + 3

abbrev pub decreases-read_line : goal.decreases-read_line
decreases-read_line g l = 7 * l.around.now.room + 2

abbrev pub decreases-read_behind : goal.decreases-read_behind
decreases-read_behind g l = 7 * l.around.now.room + 1

abbrev pub decreases-read_files : goal.decreases-read_files
decreases-read_files g l = 7 * l.around.now.room + 0

abbrev pub invariant-read_lines-loop-line : goal.invariant-read_lines-loop-line
invariant-read_lines-loop-line g l = record {
  read : Leads l.initial.log
      (run (in_order (line_read l.around (reader_in l.around.room l.around.chain)) l.initial.reading l.lines)
      (shown_by l.world.files))
      l.log (run
      (in_order (line_read l.around (reader_in l.around.room l.around.chain)) l.reading (drop l.line-index l.lines))
      (shown_by l.world.files));
  bytes : Rose l.initial.bytes l.bytes l.initial.reading.bytes l.reading.bytes;
}

abbrev pub invariant-read_files-loop-file : goal.invariant-read_files-loop-file
invariant-read_files-loop-file g l = record {
  read : Leads l.initial.log
      (run (in_order (reader_in l.around.room l.around.chain) l.initial.reading l.files) (shown_by l.world.files))
      l.log (run (in_order (reader_in l.around.room l.around.chain) l.reading (drop l.file-index l.files))
      (shown_by l.world.files));
  bytes : Rose l.initial.bytes l.bytes l.initial.reading.bytes l.reading.bytes;
}
