use Rattle.std.proofs.Common.{◌≡◌, ◌++◌, encode_utf8_all, flat_map, string_bytes}
use Rattle.html_pages.specs.Escaping.{escape}
use Rattle.html_pages.proofs.escaping.push_text.Given as goal

abbrev pub invariant-loop-c : goal.invariant-loop-c
invariant-loop-c l =
    string_bytes l.page ≡ string_bytes l.initial.page ++ encode_utf8_all (flat_map escape l.yielded)
