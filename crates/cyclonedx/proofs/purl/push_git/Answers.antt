use Rattle.std.proofs.Common.{◌≡◌, ◌++◌, OnOk, string_bytes, codes, ap, subst, append_assoc, ◌∙◌, ℕ, List}
use Rattle.cyclonedx.specs.Purls.{escape_url, commit_of}
use Rattle.cyclonedx.proofs.purl.push_git.Goals as goal

pub returns : goal.returns
returns c =
    let purl = string_bytes c.args.purl.now in
    let start = codes "?vcs_url=git%2B" ++ escape_url c.args.url.now in
    let commit = commit_of c.args.commit.now in
    subst (λ (whole : List ℕ). OnOk c.push_commit.result (string_bytes c.push_commit.new.purl ≡ whole))
    (ap (λ (front : List ℕ). front ++ commit) c.in_ok-push_start.ensures ∙ append_assoc purl start commit)
    c.push_commit.ensures
