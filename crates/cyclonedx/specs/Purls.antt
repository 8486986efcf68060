-- Package URLs of type `cargo`.
use Rattle.std.specs.Prelude.{ℕ, List, [], ◌++◌, Option, Some, None, codes}
use Rattle.std.specs.Borrow.{Bor}
use Rattle.percent_encoding.specs.Percent.{percent_encode}
use Rattle.cyclonedx.specs.declared.purl.TheConstants.{ESCAPED, ESCAPED_IN_URL}
use Rattle.cyclonedx.specs.declared.sources.Source.{Source}
use Rattle.cyclonedx.specs.declared.sources.Source.TheVariants.{CratesIo, Registry, Git, Folder, Other}

-- a name or a version with its escapes
abbrev pub escape : List ℕ → List ℕ
escape text = percent_encode ESCAPED text

-- a URL or a path with its escapes
abbrev pub escape_url : List ℕ → List ℕ
escape_url url = percent_encode ESCAPED_IN_URL url

-- a commit behind the URL of its repository
abbrev pub commit_of : Option (Bor (List ℕ)) → List ℕ
commit_of (Some commit) = codes "%40" ++ escape_url commit.now
commit_of None = []

-- what a package URL says of a Git repository
abbrev pub git_of : List ℕ → Option (Bor (List ℕ)) → List ℕ
git_of url commit = codes "?vcs_url=git%2B" ++ escape_url url ++ commit_of commit

-- what a package URL says of the source
abbrev pub qualifier_of : Source → List ℕ
qualifier_of CratesIo = []
qualifier_of Other = []
qualifier_of (Registry url) = codes "?repository_url=" ++ escape_url url.now
qualifier_of (Git url commit) = git_of url.now commit
qualifier_of (Folder path) = codes "?download_url=file://" ++ escape_url path.now

-- the package URL of a name, a version and a source
abbrev pub package_url : List ℕ → List ℕ → Source → List ℕ
package_url name version source =
    codes "pkg:cargo/" ++ escape name ++ codes "@" ++ escape version ++ qualifier_of source
