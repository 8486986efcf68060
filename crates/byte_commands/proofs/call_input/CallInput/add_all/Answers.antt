use Rattle.std.proofs.Common.{◌≡◌, ◌∙◌, rules}
use Rattle.byte_commands.specs.CallInput.{contents_of, entry_of}
use Rattle.byte_commands.proofs.Words.{one_file}
use Rattle.byte_commands.proofs.call_input.CallInput.add_all.Goals as goal

pub files-preserved : goal.files-preserved
files-preserved c =
    let first = c.in-Some.first in
    let name = c.in-Ok.name.now in
    let named : name ≡ first.name.now = search rules in (
      c.in_ok-add.ensures.arguments ∙ c.files.invariant.0,
      one_file c.args.bytes.now c.files.left.now first.after.now name c.files.self.input.now c.add.new.self.input.now
          (contents_of c.files.self.files.items) (contents_of c.add.new.self.files.items) (entry_of first)
          c.files.invariant.1 c.in-Some.ensures.0 c.in-Some.ensures.1 named c.in_ok-add.ensures.files
          c.in_ok-add.ensures.input,
    )
