use Rattle.std.proofs.Common.{◌≡◌, ◌++◌, List, ℕ, flat_map, chars, encode_utf8_all, refl, Result, Ok, Err, OnOk}
use Rattle.html_pages.specs.Escaping.{AppendsText, escape}
use Rattle.html_pages.proofs.Written.{all_stand}
use Rattle.html_pages.proofs.page.Page.push_text.Goals as goal

appends : {A E : Type 0} (r : Result A E) (page text longer : List ℕ)
    → OnOk r (longer ≡ page ++ encode_utf8_all (flat_map escape (chars text))) → OnOk r (AppendsText page text longer)
appends (Ok a) page text longer is =
    (encode_utf8_all (flat_map escape (chars text)), is, (flat_map escape (chars text), refl, all_stand (chars text)))
appends (Err e) page text longer is = is

pub returns : goal.returns
returns c = rw (← c.self.view_is) (appends c.push_text.result _ c.args.text.now _ c.push_text.ensures)
