use Rattle.std.proofs.Common.{◌≡◌, List, [], ◌∷◌, ◌++◌, ap, arith, None}
use Rattle.spdx_expressions.specs.Trees.{pieces, Piece, Term, Named}
use Rattle.spdx_expressions.specs.Inside.Reading.{Behind, left, with_exception}
use Rattle.spdx_expressions.proofs.Steps.{reads_behind, reach_excepted, is_behind, stopped_at_exception}
use Rattle.spdx_expressions.proofs.reader.Reader.licence.Goals as goal

pub returns-in-Err-clause-refused : goal.returns-in-Err-clause-refused
returns-in-Err-clause-refused c =
    stopped_at_exception c.args.self.now.text.now _
    (record { name = c.args.name.now; or_later = c.args.or_later; exception = None }) c.args.self.now.depth
    (pieces c.args.self.now.parts.items) c.in-Err.refusal c.requires.reached c.in-Err.ensures.refused

pub returns-in_ok-add-in-Some-clause-reading : goal.returns-in_ok-add-in-Some-clause-reading
returns-in_ok-add-in-Some-clause-reading c =
    let self = c.args.self.now in
    let t : Term = record { name = c.args.name.now; or_later = c.args.or_later; exception = None } in
    let found = rw c.in-Some.is at c.in-Ok.ensures.found in
    let boundary = rw c.in-Some.is at c.in-Ok.ensures.boundary in
    let order = rw c.in-Some.is at c.in-Ok.ensures.order in
    let place = c.in-Some.exception.end in
    let ps : List Piece = pieces self.parts.items ++ Named (with_exception t c.in-Some.exception.word.now) ∷ [] in
    let parts : pieces c.add.new.self.parts.items ≡ ps = rw
    (← c.in_ok-text-in-Some.ensures.ok) c.in_ok-add-in-Some.ensures.parts in
    reads_behind c.add.new.self self.text.now place self.depth ps
    (record { mode = Behind; depth = self.depth; parts = ps }) (ap (λ b. b.now) c.in_ok-add-in-Some.ensures.same)
    c.in_ok-add-in-Some.ensures.place c.in_ok-add-in-Some.ensures.depth c.in_ok-add-in-Some.ensures.wanted parts
    boundary (omega (arith, c.requires.order, c.requires.depth, order))
    (reach_excepted self.text.now _ (left self.text.now place) c.in-Some.exception.word.now t self.depth
    (pieces self.parts.items) found c.requires.reached)
    (is_behind _ _ _)
