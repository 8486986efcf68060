mod Listed
